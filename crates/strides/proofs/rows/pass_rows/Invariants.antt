-- What the loop of `pass_rows` keeps.
use Rattle.std.proofs.Common.{◌-◌}
use Rattle.bits.specs.Bits.{bit_at}
use Rattle.strides.specs.Passage.{Passage}
use Rattle.strides.proofs.rows.pass_rows.Given as goal

abbrev pub invariant-loop-passed : goal.invariant-loop-passed
invariant-loop-passed l = Passage (bit_at l.free) (bit_at l.class) l.fn.stance l.first l.left l.initial.out l.passed l.out

abbrev pub decreases-loop-passed : goal.decreases-loop-passed
decreases-loop-passed l = l.left - l.passed.bits
