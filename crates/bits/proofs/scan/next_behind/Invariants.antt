-- What the loop of `next_behind` keeps.
use Rattle.std.proofs.Common.{◌-◌, ◌*◌, ◌/◌, ◌<◌}
use Rattle.bits.specs.Bits.{is_bit}
use Rattle.bits.proofs.Held.{Without}
use Rattle.bits.proofs.scan.next_behind.Given as goal

abbrev pub invariant-loop-w : goal.invariant-loop-w
invariant-loop-w l = (l.from - 1) / 64 < l.last / 64 → Without (is_bit l.bytes l.sort) (l.from - 1) (64 * l.w)
