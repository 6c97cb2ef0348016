-- The words of the bits of an index.
use Rattle.std.proofs.Common.{◌≡◌, ℕ, suc, ◌+◌, ◌-◌, ◌*◌, ◌^◌, ◌<◌, ◌≤◌, min, Bool, false, List, length, sym, ap, ◌∙◌, ⊎_elim, arith}
use Rattle.std.proofs.lemmas.Bool.{cases_lt}
use Rattle.bits.specs.Words.{Holds}
use Rattle.bits.proofs.Values.{held_same, none_held}
use Rattle.sets.specs.declared.Sort.TheVariants.{Members}
use Rattle.sets.specs.Packing.{pack, member_after}
use Rattle.sets.specs.Search.{count_to}
use Rattle.sets.specs.Sets.{is_member}
use Rattle.sets.proofs.Made.{made_outside}
use Rattle.sets.proofs.Packing.{packed_whole}
use Rattle.sets.proofs.Tests.{count_beyond}
use Rattle.pioneer.specs.declared.index.Pioneer.{Pioneer}
use Rattle.pioneer.specs.Found.{starts_of, sums_of, member_of}
use Rattle.pioneer.specs.Packed.{FrontHolds}
use Rattle.pioneer.proofs.Answered.{meant, member_is}
use Rattle.pioneer.proofs.Ranks.{none_yet, outside, stands}

-- how many bays are passed after w words, as far as 32 bits tell
abbrev pub passed_words : ℕ → ℕ → ℕ
passed_words before w = min (before + 64 * w) (2 ^ 32 - 1)

module _ (p : Pioneer) where
  beyond : (i : ℕ) → p.last < i → member_of p i ≡ false
  beyond i h =
      let all = count_beyond (starts_of p) p.last i (omega arith) p.clear.0 in
      ⊎_elim
      (λ none. none_yet _ _ _ _ i (omega arith))
      (λ some.
      let at = stands p.last p.count (starts_of p) (sums_of p) p.lawful (count_to (starts_of p) p.last) (some, omega arith) in
      outside p.last p.count (starts_of p) (sums_of p) i (count_to (starts_of p) p.last) all (omega (arith, at.within)))
      (cases_lt (count_to (starts_of p) p.last) 1)

  member_all : (i : ℕ) → is_member (meant p) i ≡ member_of p i
  member_all i = ⊎_elim (λ past. made_outside p.last (member_of p) Members i past ∙ sym (beyond i past)) (λ l. sym (member_is p i l)) (cases_lt p.last i)

  -- a word of bays, and one behind the last bay
  pub word_after : (before base w x : ℕ) → base ≡ before + 64 * w → Holds (member_of p) base 64 x → Holds (member_after (meant p) before) (64 * w) 64 x
  word_after before base w x e h = record {
    small = h.small;
    place = λ s l. let at : before + suc (64 * w + s) ≡ suc (base + s) = omega arith in member_all (before + suc (64 * w + s)) ∙ ap (member_of p) at ∙ h.place s l;
  }

  pub word_none : (before w : ℕ) → p.last ≤ before + 64 * w → Holds (member_after (meant p) before) (64 * w) 64 0
  word_none before w past =
      held_same (λ i. false) (member_after (meant p) before) (64 * w) 64 0 (λ i low high. sym (made_outside p.last (member_of p) Members (before + i) (omega arith))) (none_held 64 (64 * w))

-- all words are written
pub all_front : (f : ℕ → Bool) (k n : ℕ) (bytes : List ℕ) → length bytes ≡ n → n ≤ k → FrontHolds f k bytes → bytes ≡ pack (8 * n) f
all_front f k n bytes long all front = packed_whole f bytes (λ j l. front j (omega arith) l) ∙ ap (λ m. pack (8 * m) f) long
