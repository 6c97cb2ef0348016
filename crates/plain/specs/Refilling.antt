-- An opened plain index that is filled anew gives its own bytes.
use Rattle.std.specs.Prelude.{◌≡◌, ℕ, Bool, List, [], ◌∷◌, length, Ok}
use Rattle.sets.specs.Sets.{is_member}
use Rattle.bits.specs.Packing.{Bytes, Packs}
use Rattle.plain.specs.Decoding.{set_of}
use Rattle.plain.specs.Filling.{bits_of, parts_of, told_of}
use Rattle.plain.specs.Opening.{opening}

-- the bytes of a set are those of the bitvector with a bit for each bay
abbrev pub PartsTell : Type 0
PartsTell = (s : List Bool) → Packs (length s) (is_member s) (bits_of s)

abbrev pub RefillsReturn : Type 0
RefillsReturn =
    (u : ℕ) (bytes : List ℕ) → Bytes bytes → opening u bytes ≡ Ok tt
    → (told_of (set_of u bytes) ≡ record { last = u; bits = length bytes }) × (parts_of (set_of u bytes) ≡ bytes ∷ [])
