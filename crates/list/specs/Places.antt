-- The numbers of a list by their places, counted from 0.
use Rattle.std.specs.Prelude.{ℕ, ◌<◌, ◌≤◌, List, length, slice_index}

-- each number is from 1 to u
abbrev pub Inside : ℕ → List ℕ → Type 0
Inside u ns = (j : ℕ) → j < length ns → (1 ≤ slice_index ns j) × (slice_index ns j ≤ u)

-- each number is above those before it
abbrev pub Climbs : List ℕ → Type 0
Climbs ns = (i j : ℕ) → (i < j) × (j < length ns) → slice_index ns i < slice_index ns j

-- the numbers before place k are at most i, and those from k on are above it
abbrev pub Cut : List ℕ → ℕ → ℕ → Type 0
Cut ns i k = (k ≤ length ns) × ((j : ℕ) → j < k → slice_index ns j ≤ i) × ((j : ℕ) → k ≤ j → j < length ns → i < slice_index ns j)
