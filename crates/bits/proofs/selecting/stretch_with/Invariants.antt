-- What the loop of `stretch_with` keeps.
use Rattle.std.proofs.Common.{◌≡◌, ◌+◌, ◌*◌, ◌≤◌}
use Rattle.sets.specs.Search.{count_to}
use Rattle.bits.specs.Bits.{is_bit}
use Rattle.bits.proofs.selecting.stretch_with.Given as goal

abbrev pub invariant-loop-s : goal.invariant-loop-s
invariant-loop-s l = (1 ≤ l.left) × (count_to (is_bit l.bytes l.sort) (512 * l.s) + l.left ≡ l.k)
