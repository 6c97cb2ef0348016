-- An opened pioneer index that is filled anew gives its own bytes.
use Rattle.std.specs.Prelude.{◌≡◌, ℕ, Bool, List, [], ◌∷◌, length, Ok}
use Rattle.bits.specs.Bits.{bit_at}
use Rattle.bits.specs.Packing.{Bytes}
use Rattle.pioneer.specs.Decoding.{Tells}
use Rattle.pioneer.specs.Filling.{count_of, starts_part, sums_part, parts_of, told_of}
use Rattle.pioneer.specs.Opening.{opening}
use Rattle.pioneer.specs.Runs.{set_of}

-- the parts of a set tell its runs
abbrev pub PartsTell : Type 0
PartsTell = (s : List Bool) → Tells (length s) (count_of s) (bit_at (starts_part s)) (bit_at (sums_part s)) s

-- an opened index is told as it is, and its parts are those of the set that it stands for
abbrev pub RefillsReturn : Type 0
RefillsReturn =
    (u n : ℕ) (starts sums : List ℕ) → Bytes starts → Bytes sums → opening u n starts sums ≡ Ok tt
    → (told_of (set_of u n starts sums) ≡ record { last = u; count = n; starts = length starts; sums = length sums })
    × (parts_of (set_of u n starts sums) ≡ starts ∷ sums ∷ [])
