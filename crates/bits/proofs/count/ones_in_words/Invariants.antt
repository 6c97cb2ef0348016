-- What the loop of `ones_in_words` keeps.
use Rattle.std.proofs.Common.{◌≡◌, ◌+◌, ◌*◌}
use Rattle.sets.specs.Search.{count_to}
use Rattle.bits.specs.Bits.{bit_at}
use Rattle.bits.proofs.count.ones_in_words.Given as goal

abbrev pub invariant-loop-w : goal.invariant-loop-w
invariant-loop-w l = count_to (bit_at l.bytes) (64 * l.w) ≡ count_to (bit_at l.bytes) (64 * l.from) + l.n
