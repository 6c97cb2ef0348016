-- The words so far have no one.
use Rattle.std.proofs.Common.{◌*◌}
use Rattle.bits.specs.Bits.{bit_at}
use Rattle.pioneer.specs.Ones.{NoneIn}
use Rattle.pioneer.proofs.ones.next_word.Given as goal

abbrev pub invariant-loop-word : goal.invariant-loop-word
invariant-loop-word l = NoneIn (bit_at l.bytes) (64 * l.from) (64 * l.word)
