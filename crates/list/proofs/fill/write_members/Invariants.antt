-- What the loop of `write_members` keeps.
use Rattle.list.proofs.Written.{Going}
use Rattle.list.proofs.fill.write_members.Given as goal

abbrev pub invariant-loop-k : goal.invariant-loop-k
invariant-loop-k g l = Going (g.S.Walking.meant l.set) l.fn.numbers l.n l.k l.numbers
