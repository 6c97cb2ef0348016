-- What the loop of `Round::walk` keeps.
use Rattle.std.proofs.Common.{◌≡◌, suc, ◌+◌, ◌-◌, ◌≤◌}
use Rattle.round.proofs.Walks.{rest}
use Rattle.round.specs.Rounds.{free_of, class_of, walk_of}
use Rattle.round.proofs.state.Round.walk.Given as goal

abbrev pub invariant-loop-p : goal.invariant-loop-p
invariant-loop-p g l =
    (l.p ≤ suc l.w) × (l.n + l.self.state.place ≤ l.p) × (rest (free_of l.self) (class_of l.self) l.p l.n ≡ walk_of l.self)

abbrev pub decreases-loop-p : goal.decreases-loop-p
decreases-loop-p g l = l.w + 1 - l.p
