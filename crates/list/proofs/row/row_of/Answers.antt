-- What is left to show of `row_of`.
use Rattle.std.proofs.Common.{arith}
use Rattle.list.proofs.Listed.{row_tells}
use Rattle.list.proofs.row.row_of.Goals as goal

pub returns : goal.returns
returns g c = λ i one. row_tells (g.S.Walking.meant c.args.set.now) 65536 c.bits.new.out (g.met.S.Walking.sized c.args.set.now) (omega arith) c.bits.ensures i one
