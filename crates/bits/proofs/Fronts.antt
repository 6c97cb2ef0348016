-- A bitvector at the front of a memory: of which no bit is 1, and of which one more is.
use Rattle.std.proofs.Common.{◌≡◌, ℕ, suc, ◌+◌, ◌-◌, ◌*◌, ◌/◌, ◌%◌, ◌^◌, ◌<◌, ◌≤◌, Bool, false, ◌&&◌, ◌||◌, eqb, leb, List, ◌++◌, length, get_or, set, take, drop, replicate, length-take, sym, refl, ap, ◌∙◌, ⊎_elim, arith, mod-lt, bit_or}
use Rattle.std.proofs.lemmas.Bool.{cases_Bool, cases_eq, le-leb, eqb-true, ne_eqb, and_from, and_right, or_left}
use Rattle.std.proofs.lemmas.List.{append-nil, drop_all, ext_get_or, get_or-replicate, length-replicate, length-set, get_or-set_same, get_or-set_other, get_or_append_left, set-append_left}
use Rattle.sets.specs.Lists.{over}
use Rattle.sets.specs.Packing.{bytes_for, value_of, pack}
use Rattle.bits.proofs.Values.{value_holds, value_only, held_same, value_same, none_held, or_held}
use Rattle.sets.proofs.Packing.{bit, pack_length, pack_byte}

-- ---- no bit is 1

pack_none : (n : ℕ) → pack n (λ i. false) ≡ replicate (bytes_for n) 0
pack_none n =
    let test : ℕ → Bool = λ i. leb i n && false in
    let none : (i : ℕ) → test i ≡ false = λ i. and_right (leb i n) false refl in
    ext_get_or 0 _ _ (pack_length n (λ i. false) ∙ sym (length-replicate (bytes_for n) 0)) (λ j l.
    let within : j < bytes_for n = omega (arith, pack_length n (λ i. false)) in
    pack_byte n (λ i. false) j within
    ∙ sym (value_only test (8 * j) 8 0 (held_same (λ i. false) test (8 * j) 8 0 (λ i low high. sym (none i)) (none_held 8 (8 * j))))
    ∙ sym (get_or-replicate (bytes_for n) j 0 0 within))

-- with what lies behind
pub over_none : (n k : ℕ) (front memory : List ℕ) → k ≡ bytes_for n → k ≤ length memory → front ≡ replicate (length (take k memory)) 0 → front ++ drop k memory ≡ over (pack n (λ i. false)) memory
over_none n k front memory long room zeros =
    let same : length (take k memory) ≡ bytes_for n = length-take k memory ∙ omega arith in
    ap (λ l. l ++ drop k memory) (zeros ∙ ap (λ m. replicate m 0) same ∙ sym (pack_none n))
    ∙ ap (λ m. pack n (λ i. false) ++ drop m memory) (long ∙ sym (pack_length n (λ i. false)))

-- ---- bit i is 1 besides

module _ (n : ℕ) (f : ℕ → Bool) (i : ℕ) (one : 1 ≤ i) (last : i ≤ n) where
  abbrev more : ℕ → Bool
  more j = eqb j i || f j

  -- among the bits with zeros behind them
  more_bit : (j : ℕ) → (eqb j i || bit n f j) ≡ bit n more j
  more_bit j = ⊎_elim
      (λ e.
      let within : j ≤ n = omega (arith, eqb-true j i e) in
      or_left _ _ e ∙ sym (and_from _ _ (le-leb j n within) (or_left _ _ e)))
      (λ e. ap (λ c. c || bit n f j) e ∙ sym (ap (λ c. leb j n && (c || f j)) e))
      (cases_Bool (eqb j i))

  put_byte : bit_or (get_or (pack n f) ((i - 1) / 8) 0) (2 ^ ((i - 1) % 8)) ≡ value_of (bit n more) (8 * ((i - 1) / 8)) 8
  put_byte =
      let k = (i - 1) / 8 in
      let s = (i - 1) % 8 in
      let low : s < 8 = mod-lt (i - 1) (omega arith) in
      let same : suc (8 * k + s) ≡ i = omega arith in
      let held = or_held (bit n f) (8 * k) 8 (value_of (bit n f) (8 * k) 8) s (value_holds (bit n f) (8 * k) 8) low in
      ap (λ x. bit_or x (2 ^ s)) (pack_byte n f k (omega arith))
      ∙ value_only (bit n more) (8 * k) 8 _ (held_same _ (bit n more) (8 * k) 8 _ (λ j a b. ap (λ x. eqb j x || bit n f j) same ∙ more_bit j) held)

  other_byte : (j : ℕ) → (j ≡ (i - 1) / 8 → ⊥) → value_of (bit n f) (8 * j) 8 ≡ value_of (bit n more) (8 * j) 8
  other_byte j apart =
      value_same (bit n f) (bit n more) (8 * j) 8 (λ k a b. sym (ap (λ c. leb k n && (c || f k)) (ne_eqb k i (λ e. apart (omega arith)))))

  pack_put : set (pack n f) ((i - 1) / 8) (bit_or (get_or (pack n f) ((i - 1) / 8) 0) (2 ^ ((i - 1) % 8))) ≡ pack n more
  pack_put =
      let k = (i - 1) / 8 in
      let v = bit_or (get_or (pack n f) k 0) (2 ^ ((i - 1) % 8)) in
      let long = length-set (pack n f) k v in
      ext_get_or 0 _ _ (long ∙ pack_length n f ∙ sym (pack_length n more)) (λ j l. ⊎_elim
      (λ same.
      let within : k < length (pack n f) = omega (arith, pack_length n f) in
      ap (λ x. get_or (set (pack n f) k v) x 0) same ∙ get_or-set_same (pack n f) k v 0 within ∙ put_byte
      ∙ sym (pack_byte n more k (omega arith)) ∙ ap (λ x. get_or (pack n more) x 0) (sym same))
      (λ apart.
      let within : j < bytes_for n = omega (arith, long, pack_length n f) in
      get_or-set_other (pack n f) k j v 0 apart ∙ pack_byte n f j within ∙ other_byte j apart ∙ sym (pack_byte n more j within))
      (cases_eq j k))

  -- with what lies behind
  pub over_put : (old : List ℕ) → set (over (pack n f) old) ((i - 1) / 8) (bit_or (get_or (over (pack n f) old) ((i - 1) / 8) 0) (2 ^ ((i - 1) % 8))) ≡ over (pack n more) old
  over_put old =
      let k = (i - 1) / 8 in
      let rest = drop (length (pack n f)) old in
      let within : k < length (pack n f) = omega (arith, pack_length n f) in
      ap (λ b. set (pack n f ++ rest) k (bit_or b (2 ^ ((i - 1) % 8)))) (get_or_append_left (pack n f) rest 0 k within)
      ∙ set-append_left (pack n f) rest k _ within
      ∙ ap (λ front. front ++ rest) pack_put
      ∙ ap (λ m. pack n more ++ drop m old) (pack_length n f ∙ sym (pack_length n more))

-- ---- a whole memory of bits

module _ (memory : List ℕ) where
  -- nothing lies behind them
  pub over_whole : (f : ℕ → Bool) → over (pack (8 * length memory) f) memory ≡ pack (8 * length memory) f
  over_whole f =
      let none = drop_all (length (pack (8 * length memory) f)) memory (omega (arith, pack_length (8 * length memory) f)) in
      ap (λ rest. pack (8 * length memory) f ++ rest) none ∙ append-nil _

  -- of which none is 1
  pub zeros_whole : (zeros : List ℕ) → zeros ≡ replicate (length memory) 0 → zeros ≡ over (pack (8 * length memory) (λ i. false)) memory
  zeros_whole zeros e =
      let all = length-take (length memory) memory in
      sym (append-nil zeros) ∙ ap (λ rest. zeros ++ rest) (sym (drop_all (length memory) memory (omega arith)))
      ∙ over_none (8 * length memory) (length memory) zeros memory (omega arith) (omega arith) (e ∙ ap (λ (m : ℕ). replicate m 0) (omega (arith, all)))
