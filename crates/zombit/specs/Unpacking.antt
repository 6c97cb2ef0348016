-- How far the bays of an index are written as bits.
use Rattle.std.specs.Prelude.{◌≡◌, ℕ, ◌+◌, ◌*◌, ◌&&◌, List, length, nat_le}
use Rattle.sets.specs.Packing.{pack, member_after}
use Rattle.zombit.specs.Meant.{meaning}
use Rattle.zombit.specs.declared.index.Zombit.{Zombit}

-- the bays after the first `before` are in the memory up to bay p, and the bits behind those are 0
abbrev pub Unpacked : Zombit → ℕ → ℕ → List ℕ → Type 0
Unpacked z before p bytes = bytes ≡ pack (8 * length bytes) (λ j. nat_le (before + j) p && member_after (meaning z) before j)
