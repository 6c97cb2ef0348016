-- The set that a zombit index stands for. Its bays lie in blocks of β, counted from 0: block k has the bays k * β + 1 to k * β + β,
-- and bit k + 1 of U and of O tells of it. A block is uniform, with a 1 in U, or mixed.
use Rattle.std.specs.Prelude.{ℕ, suc, ◌+◌, ◌-◌, ◌*◌, ◌/◌, ◌%◌, Bool, cond, not, List}
use Rattle.sets.specs.Made.{set_by}
use Rattle.sets.specs.Search.{count_to}
use Rattle.bits.specs.Bits.{bit_at}

-- so many blocks have a bay
abbrev pub blocks_of : ℕ → ℕ → ℕ
blocks_of u β = (u + (β - 1)) / β

-- how many of the first k blocks are mixed
abbrev pub mixed_before : (ℕ → Bool) → ℕ → ℕ
mixed_before U k = count_to (λ j. not (U j)) k

-- how many bits of M lie before those of block k
abbrev pub bits_before : ℕ → (ℕ → Bool) → ℕ → ℕ
bits_before β U k = mixed_before U k * β

-- what the three rows say of place j, from 1, of block k: the bay is that of the block where it is uniform, and has its bit in M where it is mixed
abbrev pub in_block : ℕ → (ℕ → Bool) → (ℕ → Bool) → (ℕ → Bool) → ℕ → ℕ → Bool
in_block β U O M k j = cond (U (suc k)) (O (suc k)) (M (bits_before β U k + j))

-- what they say of bay i
unfoldable pub bay_in : ℕ → (ℕ → Bool) → (ℕ → Bool) → (ℕ → Bool) → ℕ → Bool
bay_in β U O M i = in_block β U O M ((i - 1) / β) (suc ((i - 1) % β))

-- the bays 1 to u, of which bay i is a member exactly if the rows say so
abbrev pub set_of : ℕ → ℕ → List ℕ → List ℕ → List ℕ → List Bool
set_of u β us os ms = set_by u (bay_in β (bit_at us) (bit_at os) (bit_at ms))
