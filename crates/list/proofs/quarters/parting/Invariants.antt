-- What the loop of `parting` keeps.
use Rattle.std.proofs.Common.{◌≡◌, ℕ, ◌+◌, ◌<◌, ◌≤◌, Bool}
use Rattle.list.specs.Parting.{ComeFirst}
use Rattle.list.proofs.Parted.{Within}
use Rattle.list.proofs.quarters.parting.Given as goal

abbrev pub invariant-loop-size : goal.invariant-loop-size
invariant-loop-size g l =
    (l.first + l.size ≤ l.count)
    × ((p : ℕ → Bool) → ((n : ℕ) (b : Bool) → n < l.count → goal.F-post g l.passes n b → b ≡ p n) → (come : ComeFirst p 0 l.count)
    → Within p 0 l.count come l.first l.size)

abbrev pub decreases-loop-size : goal.decreases-loop-size
decreases-loop-size g l = l.size
