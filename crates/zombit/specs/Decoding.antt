-- The law of the set that a zombit index stands for.
use Rattle.std.specs.Prelude.{◌≡◌, ℕ, suc, ◌+◌, ◌*◌, ◌≤◌, Bool, true, false, List, length}
use Rattle.sets.specs.Sets.{is_member}
use Rattle.bits.specs.Bits.{bit_at}
use Rattle.zombit.specs.Blocks.{bits_before}
use Rattle.zombit.specs.Lawful.{Place}

-- the bay at place j of block k: of a uniform block it is a member exactly if O has the block's bit, of a mixed block exactly if its bit in M is 1
abbrev pub DecodesBay : ℕ → List ℕ → List ℕ → List ℕ → List Bool → ℕ → ℕ → Type 0
DecodesBay β us os ms s k j =
    (bit_at us (suc k) ≡ true → is_member s (k * β + j) ≡ bit_at os (suc k))
    × (bit_at us (suc k) ≡ false → is_member s (k * β + j) ≡ bit_at ms (bits_before β (bit_at us) k + j))

-- u is the last bay, and each bay is by its block
abbrev pub Decodes : ℕ → ℕ → List ℕ → List ℕ → List ℕ → List Bool → Type 0
Decodes u β us os ms s = (length s ≡ u) × ((k j : ℕ) → Place β j → k * β + j ≤ u → DecodesBay β us os ms s k j)
