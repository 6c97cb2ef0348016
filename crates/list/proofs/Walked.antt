-- The numbers that pass a test, one after the other.
use Rattle.std.proofs.Common.{◌≡◌, ℕ, zero, suc, ◌+◌, ◌-◌, ◌≤◌, Bool, true, false, List, [], ◌∷◌, filter, Some, None, Option, refl, ap, ◌∙◌, add-one, arith}
use Rattle.std.specs.List.{range_with_len}
use Rattle.std.proofs.lemmas.Bool.{cond-true, cond-false, cond_both}
use Rattle.sets.specs.Search.{first_from}

module _ (f : ℕ → Bool) where
  -- those of the n numbers from p on that pass
  abbrev pub passing : ℕ → ℕ → List ℕ
  passing p n = filter f (range_with_len p n)

  pub passing_here : (p n : ℕ) → f p ≡ true → passing p (suc n) ≡ p ∷ passing (suc p) n
  passing_here p n e = cond-true (f p) _ _ e ∙ ap (λ (q : ℕ). p ∷ passing q n) (add-one p)

  pub passing_on : (p n : ℕ) → f p ≡ false → passing p (suc n) ≡ passing (suc p) n
  passing_on p n e = cond-false (f p) _ _ e ∙ ap (λ (q : ℕ). passing q n) (add-one p)

  -- the first of them and those behind it, below e
  abbrev pub from_first : ℕ → Option ℕ → List ℕ
  from_first e None = []
  from_first e (Some q) = q ∷ passing (suc q) (e - suc q)

  pub passing_first : (e p n : ℕ) → (1 ≤ n → p + n ≡ e) → passing p n ≡ from_first e (first_from f p n)
  unfolding first_from
  passing_first e p zero end = refl
  passing_first e p (suc n) end =
      let same = end (omega arith) in
      cond_both (f p) (Some p) (first_from f (suc p) n) (λ r. passing p (suc n) ≡ from_first e r)
      (λ h. let left : n ≡ e - suc p = omega arith in passing_here p n h ∙ ap (λ (m : ℕ). p ∷ passing (suc p) m) left)
      (λ h. passing_on p n h ∙ passing_first e (suc p) n (λ some. omega arith))
