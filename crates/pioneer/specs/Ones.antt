-- A word that has a one, the first from some on.
use Rattle.std.specs.Prelude.{◌≡◌, ℕ, ◌*◌, ◌<◌, ◌≤◌, Bool, false, Some, None, Option}
use Rattle.bits.specs.Words.{Holds}

-- none of the bits after the a-th passes, up to the b-th
abbrev pub NoneIn : (ℕ → Bool) → ℕ → ℕ → Type 0
NoneIn f a b = (j : ℕ) → a < j → j ≤ b → f j ≡ false

-- the first word from the `from`-th on, of 64 bits, that has a one, and its bits; none where none of the n bits is one from there on
abbrev pub WordIs : (ℕ → Bool) → ℕ → ℕ → Option (ℕ × ℕ) → Type 0
WordIs f from n None = NoneIn f (64 * from) n
WordIs f from n (Some found) =
    (from ≤ found.0) × (64 * found.0 ≤ n) × (0 < found.1) × Holds f (64 * found.0) 64 found.1 × NoneIn f (64 * from) (64 * found.0)
