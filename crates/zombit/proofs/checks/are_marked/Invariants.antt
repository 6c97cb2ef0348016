-- What the loop of `are_marked` keeps.
use Rattle.std.proofs.Common.{◌≡◌, ℕ, ◌*◌, ◌≤◌, false, not, ◌||◌}
use Rattle.bits.specs.Bits.{bit_at}
use Rattle.zombit.proofs.checks.are_marked.Given as goal

abbrev pub invariant-loop-w : goal.invariant-loop-w
invariant-loop-w l = (i : ℕ) → 1 ≤ i → i ≤ l.count → i ≤ 64 * l.w → not (bit_at l.uniform i || bit_at l.marked i) ≡ false
