-- What is left to show of `cut`.
use Rattle.std.proofs.Common.{◌≡◌, ℕ, ◌+◌, ◌-◌, ◌*◌, ◌/◌, ◌%◌, ◌^◌, ◌<◌, ◌≤◌, ◌&&◌, List, length, get_or, set, replicate, bit_and, sym, ap, ◌∙◌, ⊎_elim, arith, rules, leb}
use borrow.Rule.Slice.PartMut.{put_mid}
use Rattle.std.proofs.lemmas.Bool.{le-leb, cases_lt}
use Rattle.std.proofs.lemmas.List.{places, length-set, get_or-set_same, get_or-set_other, get_or_past}
use Rattle.bits.proofs.Digits.{masked}
use Rattle.bits.proofs.Packing.{pack_same}
use Rattle.bits.proofs.Changed.{pack_known, pack_tells, cut_bit}
use Rattle.bits.proofs.whole.cut.Goals as goal

-- zeros from place k on
module _ (bs zeros : List ℕ) (k : ℕ) (within : k ≤ length bs) (are : zeros ≡ replicate (length bs - k) 0) where
  abbrev filled : List ℕ
  filled = put_mid k (length bs - k) bs zeros

  filled_long : length filled ≡ length bs
  filled_long = rw are (search (rules, places))

  filled_front : (j : ℕ) → j < k → get_or filled j 0 ≡ get_or bs j 0
  filled_front j l = search (rules, places)

  filled_behind : (j : ℕ) → k ≤ j → get_or filled j 0 ≡ 0
  filled_behind j l = ⊎_elim (λ less. rw are (search (rules, places))) (λ past. get_or_past filled j 0 (omega (arith, filled_long))) (cases_lt j (length bs))

pub returns-then-j-bytes : goal.returns-then-j-bytes
returns-then-j-bytes c f e =
    let before = c.args.bytes.now in
    let n = c.args.n in
    let v = bit_and (get_or before (n / 8) 0) (1 * 2 ^ (n % 8) % 256 - 1) in
    let edged : List ℕ = set before (n / 8) v in
    let long = length-set before (n / 8) v in
    let room : n / 8 + 1 ≤ length edged = omega (arith, long) in
    let zeros : c.fill.new.self ≡ replicate (length edged - (n / 8 + 1)) 0 = c.fill.ensures.after (λ y e. e) ∙ ap (λ k. replicate k 0) (search (rules, places)) in
    pack_known _ (8 * length before) _ (omega (arith, long, filled_long edged _ _ room zeros)) (λ j. (c.type_inv.bytes j).fits) (λ i one last.
    cut_bit before _ i one n (λ j l. filled_front edged _ _ room zeros j (omega arith) ∙ get_or-set_other before (n / 8) j v 0 (λ same. omega arith))
    (filled_front edged _ _ room zeros (n / 8) (omega arith) ∙ get_or-set_same before (n / 8) v 0 c.if-j-bytes.true ∙ masked (get_or before (n / 8) 0) (n % 8) 8 (omega arith))
    (λ j l. filled_behind edged _ _ room zeros j (omega arith))
    ∙ ap (λ b. leb i n && b) (pack_tells before _ f e i one last))

pub returns-else-j-bytes : goal.returns-else-j-bytes
returns-else-j-bytes c f e = e ∙ pack_same (8 * length c.args.bytes.now) _ _ (λ i one last. sym (ap (λ b. b && f i) (le-leb i c.args.n (omega arith))))
