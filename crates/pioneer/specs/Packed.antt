-- Memories whose first bytes are those of a row of bits.
use Rattle.std.specs.Prelude.{◌≡◌, ℕ, ◌*◌, ◌<◌, Bool, List, length, slice_index}
use Rattle.sets.specs.Packing.{value_of}

-- the first k bytes, or all if there are fewer, hold the bits that pass
abbrev pub FrontHolds : (ℕ → Bool) → ℕ → List ℕ → Type 0
FrontHolds f k bytes = (j : ℕ) → j < k → j < length bytes → slice_index bytes j ≡ value_of f (8 * j) 8
