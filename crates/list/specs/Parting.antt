-- Places of which those that pass a test come first.
use Rattle.std.specs.Prelude.{◌≡◌, ℕ, ◌<◌, ◌≤◌, Bool, true, false}

-- among the places from a on and before b, those before one that passes pass too
abbrev pub ComeFirst : (ℕ → Bool) → ℕ → ℕ → Type 0
ComeFirst p a b = (i j : ℕ) → (a ≤ i) × (i < j) × (j < b) → p j ≡ true → p i ≡ true

-- and those that pass end before r
abbrev pub PartedAt : (ℕ → Bool) → ℕ → ℕ → ℕ → Type 0
PartedAt p a b r = (a ≤ r) × (r ≤ b) × ((j : ℕ) → a ≤ j → j < r → p j ≡ true) × ((j : ℕ) → r ≤ j → j < b → p j ≡ false)
