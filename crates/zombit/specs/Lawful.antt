-- When three rows are the index of a set: what their bits must be.
use Rattle.std.specs.Prelude.{◌≡◌, ℕ, suc, ◌+◌, ◌*◌, ◌<◌, ◌≤◌, Bool, true, false}
use Rattle.zombit.specs.Blocks.{blocks_of, bits_before}

-- what a block size may be
abbrev pub BlockSize : ℕ → Type 0
BlockSize β = (2 ≤ β) × (β ≤ 4096)

-- block k has a bay, and is uniform or mixed
abbrev pub Uniform : ℕ → ℕ → (ℕ → Bool) → ℕ → Type 0
Uniform u β U k = (k < blocks_of u β) × (U (suc k) ≡ true)

abbrev pub Mixed : ℕ → ℕ → (ℕ → Bool) → ℕ → Type 0
Mixed u β U k = (k < blocks_of u β) × (U (suc k) ≡ false)

-- j is a place of a block
abbrev pub Place : ℕ → ℕ → Type 0
Place β j = (1 ≤ j) × (j ≤ β)

-- a mixed block has its bit in O
abbrev pub Marked : ℕ → ℕ → (ℕ → Bool) → (ℕ → Bool) → Type 0
Marked u β U O = (k : ℕ) → Mixed u β U k → O (suc k) ≡ true

-- a block that is all members has no place past the last bay
abbrev pub Within : ℕ → ℕ → (ℕ → Bool) → (ℕ → Bool) → Type 0
Within u β U O = (k : ℕ) → Uniform u β U k × (O (suc k) ≡ true) → k * β + β ≤ u

-- a mixed block is not all 0
abbrev pub SomeOne : ℕ → ℕ → (ℕ → Bool) → (ℕ → Bool) → Type 0
SomeOne u β U M = (k : ℕ) → Mixed u β U k → ((j : ℕ) → Place β j → M (bits_before β U k + j) ≡ false) → ⊥

-- nor all 1
abbrev pub SomeZero : ℕ → ℕ → (ℕ → Bool) → (ℕ → Bool) → Type 0
SomeZero u β U M = (k : ℕ) → Mixed u β U k → ((j : ℕ) → Place β j → M (bits_before β U k + j) ≡ true) → ⊥

-- and has no member past the last bay
abbrev pub Ended : ℕ → ℕ → (ℕ → Bool) → (ℕ → Bool) → Type 0
Ended u β U M = (k j : ℕ) → Mixed u β U k × Place β j × (u < k * β + j) → M (bits_before β U k + j) ≡ false

-- what O must be, and what M must be
abbrev pub LawfulO : ℕ → ℕ → (ℕ → Bool) → (ℕ → Bool) → Type 0
LawfulO u β U O = Marked u β U O × Within u β U O

abbrev pub LawfulM : ℕ → ℕ → (ℕ → Bool) → (ℕ → Bool) → Type 0
LawfulM u β U M = SomeOne u β U M × SomeZero u β U M × Ended u β U M
