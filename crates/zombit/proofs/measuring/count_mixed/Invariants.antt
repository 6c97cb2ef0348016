-- What the loop of `count_mixed` keeps.
use Rattle.std.proofs.Common.{◌≡◌, ◌≤◌}
use Rattle.zombit.specs.Blocks.{mixed_before}
use Rattle.zombit.specs.Filling.{uniform_bit}
use Rattle.zombit.specs.Looking.{set_in}
use Rattle.zombit.proofs.measuring.count_mixed.Given as goal

abbrev pub invariant-loop-k : goal.invariant-loop-k
invariant-loop-k l = (l.mixed ≡ mixed_before (uniform_bit l.blocks.size (set_in l.blocks.last l.row)) l.k) × (l.mixed ≤ l.k)
