-- What is seen in the bits of a row, and the set whose bays they are.
use Rattle.std.specs.Prelude.{ℕ, ◌*◌, ◌≤◌, Bool, not, ◌&&◌, List, length}
use Rattle.sets.specs.Made.{set_by}
use Rattle.bits.specs.Bits.{bit_at}
use Rattle.bits.specs.Checks.{Clear}
use Rattle.zombit.specs.Blocks.{blocks_of}
use Rattle.zombit.specs.Opening.{some_in}

-- there is a one and a zero among the n bits after the first a
abbrev pub both_in : (ℕ → Bool) → ℕ → ℕ → Bool
both_in f a n = some_in f a n && some_in (λ i. not (f i)) a n

-- so many places have the blocks: up to β - 1 past the last bay
abbrev pub places_of : ℕ → ℕ → ℕ
places_of u β = blocks_of u β * β

-- the set of u bays that are the first bits of the row
abbrev pub set_in : ℕ → List ℕ → List Bool
set_in u row = set_by u (bit_at row)

-- the row has a bit for each place of the blocks, which is 0 past the last bay
abbrev pub RowOf : ℕ → ℕ → List ℕ → Type 0
RowOf u β row = (places_of u β ≤ 8 * length row) × (length row ≤ 16384) × Clear u row
