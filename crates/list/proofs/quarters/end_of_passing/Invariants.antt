-- What the loop of `end_of_passing` keeps.
use Rattle.std.proofs.Common.{◌≡◌, ℕ, ◌<◌, ◌≤◌, Bool}
use Rattle.list.specs.Parting.{ComeFirst, PartedAt}
use Rattle.list.proofs.quarters.end_of_passing.Given as goal

abbrev pub invariant-loop-place : goal.invariant-loop-place
invariant-loop-place g l =
    (l.end ≤ l.place)
    × ((p : ℕ → Bool) → ((n : ℕ) (b : Bool) → l.first ≤ n → n < l.past → goal.F-post g l.passes n b → b ≡ p n) → ComeFirst p l.first l.past
    → PartedAt p l.first l.place l.end)
