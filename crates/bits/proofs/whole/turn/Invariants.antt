-- What the loop of `turn` keeps.
use Rattle.std.proofs.Common.{◌≡◌, ℕ, ◌-◌, ◌<◌, ◌≤◌, get_or}
use Rattle.bits.proofs.whole.turn.Given as goal

abbrev pub invariant-loop-byte : goal.invariant-loop-byte
invariant-loop-byte l =
    ((j : ℕ) → j < l.byte-index → get_or l.bytes j 0 ≡ 255 - get_or l.fn.bytes j 0)
    × ((j : ℕ) → l.byte-index ≤ j → get_or l.bytes j 0 ≡ get_or l.fn.bytes j 0)
    × ((j : ℕ) → get_or l.fn.bytes j 0 < 256)
