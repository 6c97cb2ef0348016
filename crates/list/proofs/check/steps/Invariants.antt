-- What the loop of `steps` keeps.
use Rattle.std.proofs.Common.{◌≡◌, ℕ, suc, ◌<◌, true, false, get_or}
use Rattle.list.specs.Lawful.{Steps}
use Rattle.list.proofs.check.steps.Given as goal

abbrev pub invariant-loop-place : goal.invariant-loop-place
invariant-loop-place l =
    (l.rising ≡ true → (j : ℕ) → suc j < l.place → get_or l.numbers j 0 < get_or l.numbers (suc j) 0)
    × (l.rising ≡ false → Steps l.numbers → ⊥)
