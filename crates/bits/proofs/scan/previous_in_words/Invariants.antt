-- What the loop of `previous_in_words` keeps.
use Rattle.std.proofs.Common.{◌*◌, ◌≤◌}
use Rattle.bits.specs.Bits.{is_bit}
use Rattle.bits.proofs.Held.{Without}
use Rattle.bits.proofs.scan.previous_in_words.Given as goal

abbrev pub invariant-loop-w : goal.invariant-loop-w
invariant-loop-w l = (l.w ≤ l.words) × Without (is_bit l.bytes l.sort) (64 * l.w) (64 * l.words)
