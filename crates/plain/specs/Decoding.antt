-- The set that a plain index stands for.
use Rattle.std.specs.Prelude.{ℕ, Bool, List}
use Rattle.bits.specs.Bits.{bit_at}
use Rattle.sets.specs.Made.{set_by, MadeBy}

-- the bays 1 to u, of which bay i is a member exactly if bit i is 1
abbrev pub set_of : ℕ → List ℕ → List Bool
set_of u bytes = set_by u (bit_at bytes)

-- the law of the set: u is its last bay, and bay i is a member exactly if bit i is 1
abbrev pub Decodes : ℕ → List ℕ → List Bool → Type 0
Decodes u bytes = MadeBy u (bit_at bytes)
