-- The steps that are left give the answer.
use Rattle.std.proofs.Common.{◌≡◌, Bool, List, suc, drop}
use Rattle.chains.specs.Judging.{numbered, sizing}
use Rattle.chains.proofs.judging.check_sizes.Given as goal

abbrev pub invariant-loop-before : goal.invariant-loop-before
invariant-loop-before l = (s : List Bool) → sizing (numbered l.side s 1 l.choices) ≡ sizing (numbered l.side s (suc l.before) (drop l.before l.choices))
