-- What the loop of `write_run` keeps.
use Rattle.strides.proofs.Numbering.{Rising}
use Rattle.strides.proofs.numbers.write_run.Given as goal

abbrev pub invariant-loop-k : goal.invariant-loop-k
invariant-loop-k l = Rising l.first l.initial.out l.k l.out
