-- What the loop of `Zombit::pass` keeps.
use Rattle.std.proofs.Common.{◌≡◌, ◌+◌, ◌*◌, ◌<◌}
use Rattle.sets.specs.Search.{count_to}
use Rattle.zombit.specs.Meant.{sorted}
use Rattle.zombit.specs.Passing.{IsPassed}
use Rattle.zombit.proofs.index.Zombit.pass.Given as goal

abbrev pub invariant-loop : goal.invariant-loop
invariant-loop l = IsPassed l.self l.passed × (count_to (sorted l.self l.sort) (l.passed.block * l.self.blocks.size) < l.n) × (l.passed.block ≡ l.initial.passed.block + l.counter * l.step)
