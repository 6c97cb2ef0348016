-- What the loop of `kth_after` keeps.
use Rattle.std.proofs.Common.{◌≡◌, ◌+◌, ◌*◌, ◌<◌}
use Rattle.sets.specs.Search.{count_to}
use Rattle.bits.specs.Bits.{is_bit}
use Rattle.bits.proofs.after.kth_after.Given as goal

abbrev pub invariant-loop-w : goal.invariant-loop-w
invariant-loop-w l =
    (0 < l.left) × (count_to (is_bit l.bytes l.sort) (l.from + 64 * l.w) + l.left ≡ count_to (is_bit l.bytes l.sort) l.from + l.k)
