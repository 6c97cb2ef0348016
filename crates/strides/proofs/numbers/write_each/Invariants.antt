-- What the loop of `write_each` keeps.
use Rattle.strides.proofs.Numbering.{Writing}
use Rattle.strides.proofs.numbers.write_each.Given as goal

abbrev pub invariant-loop-left : goal.invariant-loop-left
invariant-loop-left l = Writing l.row l.first l.initial.out l.left l.n l.out

abbrev pub decreases-loop-left : goal.decreases-loop-left
decreases-loop-left l = l.left
