-- What the loop of `put_ends` keeps.
use Rattle.std.proofs.Common.{◌*◌}
use Rattle.pioneer.proofs.Writing.{Ending}
use Rattle.pioneer.proofs.write.put_ends.Given as goal

abbrev pub invariant-loop-ends : goal.invariant-loop-ends
invariant-loop-ends l = Ending l.row (64 * l.w) l.fn.sums l.sums l.ends

abbrev pub decreases-loop-ends : goal.decreases-loop-ends
decreases-loop-ends l = l.ends
