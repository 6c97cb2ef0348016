-- The bits of a layer, made of those of the set beneath.
use Rattle.std.proofs.Common.{◌≡◌, ℕ, ◌+◌, ◌-◌, ◌^◌, ◌<◌, ◌≤◌, min, Bool, false, ◌&&◌, leb, not, List, length, sym, ap, ◌∙◌, ⊎_elim, arith}
use Rattle.std.proofs.lemmas.Bool.{cases_lt, le-leb, lt-leb, and_left}
use Rattle.sets.specs.declared.Sort.TheVariants.{Members, Others}
use Rattle.sets.specs.Packing.{pack, member_after}
use Rattle.sets.specs.Sets.{is_member, Sized}
use Rattle.sets.proofs.Bays.{is_inside, is_beyond}
use Rattle.bits.specs.Rows.{first_bits}
use Rattle.bits.proofs.Packing.{pack_same}
use Rattle.layers.specs.Layers.{turned, level_in, BaysOf}
use Rattle.layers.proofs.Turns.{turned_is}
use Rattle.layers.proofs.Levels.{level_is, level_outside}

-- cut at the last bay
cut_bit : (left j : ℕ) (b t : Bool) → (j ≤ left → b ≡ t) → (left < j → t ≡ false) → (leb j left && b) ≡ t
cut_bit left j b t inside behind = ⊎_elim
    (λ past. and_left _ _ (lt-leb j left past) ∙ sym (behind past))
    (λ within. ap (λ c. c && b) (le-leb j left within) ∙ inside within)
    (cases_lt left j)

pub turned_bits : (s : List Bool) (n before left : ℕ) → left ≡ length s - before
    → pack n (first_bits left (λ j. not (member_after s before j))) ≡ pack n (member_after (turned s) before)
turned_bits s n before left e =
    pack_same n _ _ (λ j one l. cut_bit left j _ _
    (λ within.
    ap not (is_inside s Members (before + j) (omega arith) (omega arith)) ∙ sym (is_inside s Others (before + j) (omega arith) (omega arith))
    ∙ sym (turned_is s Members (before + j)))
    (λ past. turned_is s Members (before + j) ∙ is_beyond s Others (before + j) (omega arith)))

pub level_bits : (s : List Bool) (a b : ℕ) (bays : BaysOf a b s) (size : Sized s) (n before beneath left : ℕ)
    → beneath ≡ min (a - 1 + before) (2 ^ 32 - 1) → left ≡ b - a + 1 - before
    → pack n (first_bits left (member_after s beneath)) ≡ pack n (member_after (level_in a b s) before)
level_bits s a b bays size n before beneath left at e =
    pack_same n _ _ (λ j one l. cut_bit left j _ _
    (λ within.
    let same : beneath + j ≡ a - 1 + (before + j) = omega arith in
    ap (is_member s) same ∙ sym (level_is s a b bays size Members (before + j) (omega arith) (omega arith)))
    (λ past. level_outside s a b bays size Members (before + j) (omega arith)))
