-- What the loop of `last_word` keeps.
use Rattle.std.proofs.Common.{◌-◌, ◌*◌, ◌≤◌, length}
use Rattle.bits.specs.Bits.{bit_at}
use Rattle.bits.specs.Words.{Holds}
use Rattle.bits.proofs.words.last_word.Given as goal

abbrev pub invariant-loop-k : goal.invariant-loop-k
invariant-loop-k l = (l.j ≤ l.k) × Holds (bit_at l.bytes) (8 * l.k) (8 * (length l.bytes - l.k)) l.w
