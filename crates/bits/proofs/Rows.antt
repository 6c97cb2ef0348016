-- Rows that are written from the front on, bit by bit.
use Rattle.std.proofs.Common.{◌≡◌, ℕ, ◌+◌, ◌≤◌, Bool, true, false, ◌&&◌, ◌||◌, eqb, List, sym, ap, ◌∙◌, ⊎_elim, arith}
use Rattle.std.proofs.lemmas.Bool.{cases_lt, cases_eq, le-leb, lt-leb, eq-eqb, ne_eqb, and_from, and_left, and_right, or_left}
use Rattle.sets.specs.Lists.{over}
use Rattle.sets.specs.Packing.{pack}
use Rattle.bits.specs.Rows.{first_bits}
use Rattle.bits.proofs.Packing.{pack_same}

-- the first a bits of a row, and then bit i, the next
module _ (a i : ℕ) (row : ℕ → Bool) (next : i ≡ a + 1) where
  other_bit : (j : ℕ) → (j ≡ i → ⊥) → first_bits a row j ≡ first_bits i row j
  other_bit j apart = ⊎_elim
      (λ less. ap (λ b. b && row j) (le-leb j a (omega arith) ∙ sym (le-leb j i (omega arith))))
      (λ more. ap (λ b. b && row j) (lt-leb j a (omega arith) ∙ sym (lt-leb j i (omega arith))))
      (cases_lt j i)

  put_bit : row i ≡ true → (j : ℕ) → (eqb j i || first_bits a row j) ≡ first_bits i row j
  put_bit one j = ⊎_elim
      (λ same. or_left _ _ (eq-eqb j i same) ∙ sym (and_from _ _ (le-leb j i (omega arith)) (ap row same ∙ one)))
      (λ apart. ap (λ b. b || first_bits a row j) (ne_eqb j i apart) ∙ other_bit j apart)
      (cases_eq j i)

  kept_bit : row i ≡ false → (j : ℕ) → first_bits a row j ≡ first_bits i row j
  kept_bit none j = ⊎_elim
      (λ same. and_right _ _ (ap row same ∙ none) ∙ sym (and_right _ _ (ap row same ∙ none)))
      (other_bit j)
      (cases_eq j i)

-- a memory with them at its front: bit i is put where it is 1, and else nothing is to be done
module _ (n a i b : ℕ) (row : ℕ → Bool) (old memory : List ℕ) (next : i ≡ a + 1) (end : i ≡ b) where
  pub row_put : row i ≡ true → memory ≡ over (pack n (λ j. eqb j i || first_bits a row j)) old → memory ≡ over (pack n (first_bits b row)) old
  row_put one e =
      e ∙ ap (λ p. over p old) (pack_same n _ _ (λ j l h. put_bit a i row next one j)) ∙ ap (λ (x : ℕ). over (pack n (first_bits x row)) old) end

  pub row_kept : row i ≡ false → memory ≡ over (pack n (first_bits a row)) old → memory ≡ over (pack n (first_bits b row)) old
  row_kept none e =
      e ∙ ap (λ p. over p old) (pack_same n _ _ (λ j l h. kept_bit a i row next none j)) ∙ ap (λ (x : ℕ). over (pack n (first_bits x row)) old) end

-- none of the bits, and all of them
pub row_none : (n : ℕ) (row : ℕ → Bool) → pack n (λ i. false) ≡ pack n (first_bits 0 row)
row_none n row = pack_same n _ _ (λ j l h. sym (and_left _ _ (lt-leb j 0 (omega arith))))

pub row_all : (n a : ℕ) (row : ℕ → Bool) → n ≤ a → pack n (first_bits a row) ≡ pack n row
row_all n a row past = pack_same n _ _ (λ j l h. ap (λ b. b && row j) (le-leb j a (omega arith)))
