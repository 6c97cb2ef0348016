-- Numbers that step up, and rows apart, in joined lists.
use Rattle.std.proofs.Common.{ℕ, suc, ◌<◌, ◌≤◌, List, [], ◌∷◌, ◌++◌, inl, inr, ⊎_elim, arith}
use Rattle.sets.specs.Lists.{Among, Rising}
use Rattle.sets.proofs.Joins.{any_split}
use Rattle.round.specs.Stretches.{Row, Has, In, Apart}

pub apart_join : (rows more : List Row) → Apart rows → Apart more → ((j : ℕ) → In rows j → In more j → ⊥) → Apart (rows ++ more)
apart_join [] more h k n = k
apart_join (r ∷ rows) more h k n = (
  λ j here there. ⊎_elim (λ l. h.0 j here l) (λ m. n j (inl here) m) (any_split (Has j) rows more there),
  apart_join rows more h.1 k (λ j a b. n j (inr a) b),
)

-- from p to e by steps: each number is at or above where the step from the one before it ends
module _ (g : ℕ → ℕ) where
  abbrev pub Steps : ℕ → ℕ → List ℕ → Type 0
  Steps p e [] = p ≤ e
  Steps p e (x ∷ xs) = (p ≤ x) × (x < g x) × Steps (g x) e xs

  pub steps_from : (p q e : ℕ) (xs : List ℕ) → p ≤ q → Steps q e xs → Steps p e xs
  steps_from p q e [] l h = omega arith
  steps_from p q e (x ∷ xs) l h = (omega (arith, h.0), h.1, h.2)

  pub steps_join : (p q e : ℕ) (xs ys : List ℕ) → Steps p q xs → Steps q e ys → Steps p e (xs ++ ys)
  steps_join p q e [] ys h k = steps_from p q e ys h k
  steps_join p q e (x ∷ xs) ys h k = (h.0, h.1, steps_join (g x) q e xs ys h.2 k)

  pub steps_up : (p e : ℕ) (xs : List ℕ) → Steps p e xs → p ≤ e
  steps_up p e [] h = h
  steps_up p e (x ∷ xs) h = omega (arith, h.0, h.1, steps_up (g x) e xs h.2)

  pub steps_in : (p e : ℕ) (xs : List ℕ) (x : ℕ) → Steps p e xs → Among xs x → (p ≤ x) × (x < e)
  steps_in p e [] y h m = absurd m
  steps_in p e (x ∷ xs) y h (inl m) = let up = steps_up (g x) e xs h.2 in (omega (arith, h.0), omega (arith, h.1))
  steps_in p e (x ∷ xs) y h (inr m) = let on = steps_in (g x) e xs y h.2 m in (omega (arith, h.0, h.1, on.0), on.1)

pub steps_rising : (p e : ℕ) (xs : List ℕ) → Steps suc p e xs → Rising p xs
steps_rising p e [] h = tt
steps_rising p e (x ∷ xs) h = (h.0, steps_rising (suc x) e xs h.2)
