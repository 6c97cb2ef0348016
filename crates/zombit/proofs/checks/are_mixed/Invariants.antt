-- What the loop of `are_mixed` keeps.
use Rattle.std.proofs.Common.{◌≡◌, ℕ, ◌*◌, ◌<◌, true}
use Rattle.bits.specs.Bits.{bit_at}
use Rattle.zombit.specs.Looking.{both_in}
use Rattle.zombit.proofs.checks.are_mixed.Given as goal

abbrev pub invariant-loop-k : goal.invariant-loop-k
invariant-loop-k l = (k : ℕ) → k < l.k → both_in (bit_at l.mixed) (k * l.size) l.size ≡ true
