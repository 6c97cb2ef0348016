-- Bays that are counted from another bay on.
use Rattle.std.proofs.Common.{◌≡◌, ℕ, zero, suc, ◌+◌, ◌-◌, ◌<◌, ◌≤◌, Bool, ltb, leb, Some, None, Option, sym, ap, ◌∙◌, ⊎_elim, arith}
use Rattle.std.proofs.lemmas.Bool.{cond_both, cases_Bool, leb-true, leb-false, ltb-true, ltb-false}
use Rattle.sets.specs.Search.{count_to}
use Rattle.sets.proofs.Tests.{count_none, count_here, count_on}
use Rattle.layers.specs.Lifts.{lifted}

-- a bay beneath lies in the level, or before it, or after it
pub lift_cases : (d u q : ℕ) (P : Option ℕ → Type 0) → (d < q → q ≤ d + u → P (Some (q - d))) → (q ≤ d → P None) → (d + u < q → P None) → P (lifted d u (Some q))
lift_cases d u q P inside before after =
    cond_both (ltb d q) _ None P
    (λ past. cond_both (leb (q - d) u) (Some (q - d)) None P
    (λ low. inside (ltb-true d q past) (omega (arith, ltb-true d q past, leb-true (q - d) u low)))
    (λ high. after (omega (arith, leb-false (q - d) u high))))
    (λ early. before (ltb-false d q early))

-- those up to d, and those after them counted from 1, are those up to d + n
pub count_shift : (f g : ℕ → Bool) (d n : ℕ) → ((j : ℕ) → 1 ≤ j → j ≤ n → g j ≡ f (d + j)) → count_to f d + count_to g n ≡ count_to f (d + n)
count_shift f g d zero same = let at : d + zero ≡ d = omega arith in omega (arith, count_none g, ap (count_to f) at)
count_shift f g d (suc n) same =
    let all = count_shift f g d n (λ j l h. same j l (omega arith)) in
    let at : d + suc n ≡ suc (d + n) = omega arith in
    let here = same (suc n) (omega arith) (omega arith) ∙ ap f at in
    ⊎_elim
    (λ e. omega (arith, all, ap (count_to f) at, count_here g n e, count_here f (d + n) (sym here ∙ e)))
    (λ e. omega (arith, all, ap (count_to f) at, count_on g n e, count_on f (d + n) (sym here ∙ e)))
    (cases_Bool (g (suc n)))
