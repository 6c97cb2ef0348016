-- What the loop of `write_ones` keeps.
use Rattle.std.proofs.Common.{ℕ}
use Rattle.list.proofs.Taken.{Going}
use Rattle.list.proofs.ones.write_ones.Given as goal

abbrev pub invariant-loop-left : goal.invariant-loop-left
invariant-loop-left l = (c : ℕ) × Going l.w l.before l.fn.numbers l.left l.n c l.numbers

abbrev pub decreases-loop-left : goal.decreases-loop-left
decreases-loop-left l = l.left
