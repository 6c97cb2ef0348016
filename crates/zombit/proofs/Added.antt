-- Rows to which bits are added.
use Rattle.std.proofs.Common.{◌≡◌, ℕ, ◌+◌, ◌-◌, ◌<◌, ◌≤◌, Bool, false, ◌&&◌, ◌||◌, leb, sym, ap, ◌∙◌, ⊎_elim, arith}
use Rattle.std.proofs.Math.Bool.{or-false}
use Rattle.std.proofs.lemmas.Bool.{cases_lt, le-leb, lt-leb, lt-ltb, le-ltb, and_left, and_right}
use Rattle.sets.specs.Packing.{pack}
use Rattle.bits.specs.Rows.{first_bits, moved}
use Rattle.bits.proofs.Packing.{pack_same}

-- the bits of a row up to place q, where those up to place p are there: what is added is the row from p on
pub row_added : (row more : ℕ → Bool) (at : ℕ → ℕ) (n p q : ℕ) → p ≤ q
    → ((j : ℕ) → 1 ≤ j → j ≤ n → at j ≤ p → more j ≡ false)
    → ((j : ℕ) → 1 ≤ j → j ≤ n → p < at j → at j ≤ q → more j ≡ row j)
    → ((j : ℕ) → 1 ≤ j → j ≤ n → q < at j → more j ≡ false)
    → pack n (λ j. more j || (leb (at j) p && row j)) ≡ pack n (λ j. leb (at j) q && row j)
row_added row more at n p q order low here high = pack_same n _ _ same
  where
    same : (j : ℕ) → 1 ≤ j → j ≤ n → (more j || (leb (at j) p && row j)) ≡ (leb (at j) q && row j)
    same j one last = ⊎_elim
        (λ past.
        ap (λ b. more j || b) (and_left _ (row j) (lt-leb (at j) p past)) ∙ or-false (more j)
        ∙ ⊎_elim
        (λ beyond. high j one last beyond ∙ sym (and_left _ _ (lt-leb (at j) q beyond)))
        (λ within. here j one last past within ∙ sym (ap (λ b. b && row j) (le-leb (at j) q within)))
        (cases_lt q (at j)))
        (λ upto. ap (λ b. b || (leb (at j) p && row j)) (low j one last upto) ∙ ap (λ b. b && row j) (le-leb (at j) p upto ∙ sym (le-leb (at j) q (omega arith))))
        (cases_lt p (at j))

-- the next bits of a row, copied from where another has them
pub row_copied : (row from : ℕ → Bool) (n a more before : ℕ) → ((j : ℕ) → 1 ≤ j → j ≤ more → from (before + j) ≡ row (a + j))
    → pack n (λ j. moved a more from before j || first_bits a row j) ≡ pack n (first_bits (a + more) row)
row_copied row from n a more before same = row_added row (moved a more from before) (λ j. j) n a (a + more) (omega arith)
    (λ j one last l. and_left _ _ (and_left _ _ (le-ltb a j l)))
    (λ j one last g l.
    let at : a + (j - a) ≡ j = omega arith in
    (λ i. (lt-ltb a j g i && le-leb j (a + more) l i) && from (before + (j - a))) ∙ same (j - a) (omega arith) (omega arith) ∙ ap row at)
    (λ j one last g. and_left _ _ (and_right _ _ (lt-leb j (a + more) g)))
