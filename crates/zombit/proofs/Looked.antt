-- What is seen in the row of a set, and whether a block is mixed.
use Rattle.std.proofs.Common.{◌≡◌, ℕ, suc, ◌+◌, ◌-◌, ◌*◌, ◌≤◌, Bool, true, false, not, List, length, is_some, sym, ap, ◌∙◌, ⊎_elim, arith}
use Rattle.std.proofs.lemmas.Bool.{cases_lt}
use Rattle.sets.specs.Packing.{pack, member_after}
use Rattle.sets.specs.declared.Sort.TheVariants.{Members}
use Rattle.sets.specs.Sets.{is_member}
use Rattle.sets.proofs.Bays.{is_beyond}
use Rattle.sets.proofs.Made.{made_is, made_outside, made_again}
use Rattle.sets.proofs.Tests.{first_agree, count_here, count_on}
use Rattle.bits.specs.Bits.{bit_at}
use Rattle.bits.specs.Checks.{Clear}
use Rattle.bits.proofs.Bytes.{bit_past}
use Rattle.bits.proofs.Changed.{pack_tells}
use Rattle.zombit.specs.Blocks.{mixed_before}
use Rattle.zombit.specs.Filling.{has_member, has_other, is_mixed, uniform_bit, marked_bit}
use Rattle.zombit.specs.Looking.{set_in, RowOf}
use Rattle.zombit.specs.Opening.{some_in}

-- ---- a set by its row

module _ (u β : ℕ) (bits : List ℕ) (is_row : RowOf u β bits) where
  abbrev s : List Bool
  s = set_in u bits

  pub row_bay : (i : ℕ) → 1 ≤ i → bit_at bits i ≡ is_member s i
  row_bay i one = ⊎_elim
      (λ past. is_row.2 i past ∙ sym (made_outside u (bit_at bits) Members i past))
      (λ upto. sym (made_is u (bit_at bits) Members i one upto))
      (cases_lt u i)

  pub row_member : (k a : ℕ) → a ≡ k * β + 0 → some_in (bit_at bits) a β ≡ has_member β s k
  row_member k a at =
      let same : a ≡ k * β = omega arith in
      ap is_some (first_agree (bit_at bits) (is_member s) (suc a) β (λ j l h. row_bay j (omega arith))) ∙ ap (λ (x : ℕ). some_in (is_member s) x β) same

  pub row_other : (k a : ℕ) → a ≡ k * β + 0 → some_in (λ i. not (bit_at bits i)) a β ≡ has_other β s k
  row_other k a at =
      let same : a ≡ k * β = omega arith in
      ap is_some (first_agree (λ i. not (bit_at bits i)) (λ i. not (is_member s i)) (suc a) β (λ j l h. ap not (row_bay j (omega arith))))
      ∙ ap (λ (x : ℕ). some_in (λ i. not (is_member s i)) x β) same

-- the bits that a set wrote
module _ (s : List Bool) (bits : List ℕ) (wrote : bits ≡ pack (8 * length bits) (member_after s 0)) where
  wrote_bit : (i : ℕ) → 1 ≤ i → i ≤ 8 * length bits → bit_at bits i ≡ is_member s i
  wrote_bit i one last = let same : 0 + i ≡ i = omega arith in pack_tells bits (8 * length bits) (member_after s 0) wrote i one last ∙ ap (is_member s) same

  pub wrote_set : (u : ℕ) → u ≡ length s → length s ≤ 8 * length bits → set_in u bits ≡ s
  wrote_set u long room = ap (λ (x : ℕ). set_in x bits) long ∙ made_again s (bit_at bits) (λ i one last. wrote_bit i one (omega arith))

  pub wrote_clear : (u : ℕ) → u ≡ length s → Clear u bits
  wrote_clear u long i past = ⊎_elim
      (λ behind. bit_past bits i (omega arith))
      (λ within. wrote_bit i (omega arith) within ∙ is_beyond s Members i (omega arith))
      (cases_lt (8 * length bits) i)

-- ---- the bits of a block

module _ (β : ℕ) (s : List Bool) (k : ℕ) where
  pub uniform_at : uniform_bit β s (suc k) ≡ not (is_mixed β s k)
  unfolding uniform_bit
  uniform_at = let same : suc k - 1 ≡ k = omega arith in ap (λ (t : ℕ). not (is_mixed β s t)) same

  pub marked_at : marked_bit β s (suc k) ≡ has_member β s k
  unfolding marked_bit
  marked_at = let same : suc k - 1 ≡ k = omega arith in ap (has_member β s) same

  -- one block more
  pub mixed_more : (n m : ℕ) → n ≡ mixed_before (uniform_bit β s) k → is_mixed β s k ≡ true → m ≡ n + 1 → m ≡ mixed_before (uniform_bit β s) (k + 1)
  mixed_more n m count e more =
      let same : k + 1 ≡ suc k = omega arith in
      omega (arith, count, more, count_here (λ j. not (uniform_bit β s j)) k (ap not (uniform_at ∙ ap not e)), ap (mixed_before (uniform_bit β s)) same)

  pub mixed_none : (n : ℕ) → n ≡ mixed_before (uniform_bit β s) k → is_mixed β s k ≡ false → n ≡ mixed_before (uniform_bit β s) (k + 1)
  mixed_none n count e =
      let same : k + 1 ≡ suc k = omega arith in
      omega (arith, count, count_on (λ j. not (uniform_bit β s j)) k (ap not (uniform_at ∙ ap not e)), ap (mixed_before (uniform_bit β s)) same)
