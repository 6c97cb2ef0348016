-- What the functions that read and write 8 or 64 bits at a time say of them.
use Rattle.std.specs.Prelude.{◌≡◌, ℕ, suc, ◌+◌, ◌-◌, ◌*◌, ◌/◌, ◌%◌, ◌^◌, ◌<◌, ◌≤◌, Bool, cond, ◌&&◌, ◌||◌, Some, None, Option, List, length, ◌==◌, nat_le, nat_lt}
use Rattle.bits.specs.Bits.{bit_at}

-- whether digit s of x, from 0, is 1
abbrev pub digit : ℕ → ℕ → Bool
digit x s = x / 2 ^ s % 2 == 1

-- the m digits of x tell which of the m numbers after p pass a test
pub record Holds (f : ℕ → Bool) (p m x : ℕ) : Type 0 where
  pub small : x < 2 ^ m
  pub place : (s : ℕ) → s < m → f (suc (p + s)) ≡ digit x s

-- i, unless it lies beyond the last
abbrev pub at_most : ℕ → ℕ → Option ℕ
at_most last i = cond (nat_le i last) (Some i) None

-- bit i is in one of the bytes from a on, before b
abbrev pub in_bytes : ℕ → ℕ → ℕ → Bool
in_bytes a b i = nat_le a ((i - 1) / 8) && nat_lt ((i - 1) / 8) b

-- bit i lies after byte k, and is a digit of x
abbrev pub in_word : ℕ → ℕ → ℕ → Bool
in_word k x i = nat_lt (8 * k) i && digit x (i - suc (8 * k))

-- the bits that pass become 1, and the others are kept
abbrev pub Adds : (ℕ → Bool) → List ℕ → List ℕ → Type 0
Adds f old new = (i : ℕ) → 1 ≤ i → i ≤ 8 * length old → bit_at new i ≡ (f i || bit_at old i)
