-- Rows of bits: a test of the numbers from 1 on.
use Rattle.std.specs.Prelude.{◌≡◌, ℕ, ◌+◌, ◌-◌, ◌≤◌, Bool, ◌&&◌, List, nat_le, nat_lt}
use Rattle.bits.specs.Bits.{bit_at}

-- the first a bits of a row, and none behind them
abbrev pub first_bits : ℕ → (ℕ → Bool) → ℕ → Bool
first_bits a row i = nat_le i a && row i

-- a run of ones, and nothing else
abbrev pub run : ℕ → ℕ → ℕ → Bool
run first last i = nat_le first i && nat_le i last

-- after the first `at` bits the n that a row has after its first `before`, and no others
abbrev pub moved : ℕ → ℕ → (ℕ → Bool) → ℕ → ℕ → Bool
moved at n row before i = nat_lt at i && nat_le i (at + n) && row (before + (i - at))

-- the first n bits of the bytes are those of the row
abbrev pub TellsRow : ℕ → (ℕ → Bool) → List ℕ → Type 0
TellsRow n row bytes = (i : ℕ) → 1 ≤ i → i ≤ n → bit_at bytes i ≡ row i
