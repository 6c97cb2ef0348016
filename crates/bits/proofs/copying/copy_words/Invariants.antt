-- What the loop of `copy_words` keeps.
use Rattle.std.proofs.Common.{◌≡◌, ◌+◌, ◌*◌, length}
use Rattle.bits.specs.Bits.{bit_at}
use Rattle.bits.specs.Rows.{moved}
use Rattle.bits.specs.Words.{Adds}
use Rattle.bits.proofs.copying.copy_words.Given as goal

abbrev pub invariant-loop-w : goal.invariant-loop-w
invariant-loop-w l = (length l.bytes ≡ length l.fn.bytes) × Adds (moved (8 * l.k) (64 * l.w) (bit_at l.from) (8 * l.j + l.s)) l.fn.bytes l.bytes
