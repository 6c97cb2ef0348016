-- What is left to show of `Zombit::mixed_to`.
use Rattle.std.proofs.Common.{ℕ, ◌+◌, ◌-◌, suc, ap, ◌∙◌, arith}
use Rattle.sets.specs.Search.{first_from}
use Rattle.zombit.specs.Meant.{U}
use Rattle.zombit.proofs.Skips.{first_is}
use Rattle.zombit.proofs.Unpacked.{run_some, run_none}
use Rattle.zombit.proofs.index.Zombit.mixed_to.Goals as goal

pub overflow_sub-result : goal.overflow_sub-result
overflow_sub-result c = let law = first_is (U c.args.self.now) _ _ _ c.in-Some.ensures in omega (arith, law.0)

pub returns-in-Some-clause-more : goal.returns-in-Some-clause-more
returns-in-Some-clause-more c =
    let z = c.args.self.now in
    let found = c.in-Some.ensures ∙ ap (λ (n : ℕ). first_from (U z) (c.args.k + 1) (suc n - (c.args.k + 1))) c.count-count.ensures in
    (run_some z c.args.k _ c.requires.mixed (first_is (U z) _ _ _ found)).0

pub returns-in-Some-clause-within : goal.returns-in-Some-clause-within
returns-in-Some-clause-within c =
    let z = c.args.self.now in
    let found = c.in-Some.ensures ∙ ap (λ (n : ℕ). first_from (U z) (c.args.k + 1) (suc n - (c.args.k + 1))) c.count-count.ensures in
    (run_some z c.args.k _ c.requires.mixed (first_is (U z) _ _ _ found)).1

pub returns-in-Some-clause-run : goal.returns-in-Some-clause-run
returns-in-Some-clause-run c =
    let z = c.args.self.now in
    let found = c.in-Some.ensures ∙ ap (λ (n : ℕ). first_from (U z) (c.args.k + 1) (suc n - (c.args.k + 1))) c.count-count.ensures in
    (run_some z c.args.k _ c.requires.mixed (first_is (U z) _ _ _ found)).2

pub returns-in-None-clause-run : goal.returns-in-None-clause-run
returns-in-None-clause-run c i low high =
    let z = c.args.self.now in
    let none = c.in-None.ensures ∙ ap (λ (n : ℕ). first_from (U z) (c.args.k + 1) (suc n - (c.args.k + 1))) c.count-count.ensures in
    run_none z c.args.k (first_is (U z) _ _ _ none) i low (omega (arith, high, c.count-count.ensures))
