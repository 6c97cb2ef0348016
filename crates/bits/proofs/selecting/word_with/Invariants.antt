-- What the loop of `word_with` keeps.
use Rattle.std.proofs.Common.{◌≡◌, ◌+◌, ◌*◌, ◌≤◌}
use Rattle.sets.specs.Search.{count_to}
use Rattle.bits.specs.Bits.{is_bit}
use Rattle.bits.proofs.selecting.word_with.Given as goal

abbrev pub invariant-loop-w : goal.invariant-loop-w
invariant-loop-w l = (1 ≤ l.left) × (count_to (is_bit l.bytes l.sort) (64 * l.w) + l.left ≡ count_to (is_bit l.bytes l.sort) (64 * l.from) + l.k)
