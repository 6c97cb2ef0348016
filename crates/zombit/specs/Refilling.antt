-- An opened zombit index that is filled anew gives its own bytes.
use Rattle.std.specs.Prelude.{◌≡◌, ℕ, Bool, List, [], ◌∷◌, length, Ok}
use Rattle.bits.specs.Bits.{bit_at}
use Rattle.bits.specs.Packing.{Bytes}
use Rattle.zombit.specs.Blocks.{set_of}
use Rattle.zombit.specs.Filling.{parts_of, told_of, uniform_of, marked_of, mixed_of}
use Rattle.zombit.specs.Lawful.{BlockSize}
use Rattle.zombit.specs.Opening.{opening}
use Rattle.zombit.specs.Told.{Told}

-- each bit of the rows of a set is what it must be for the set
abbrev pub PartsTell : Type 0
PartsTell =
    (β : ℕ) (s : List Bool) → BlockSize β
    → Told (length s) β s (bit_at (uniform_of β s)) (bit_at (marked_of β s)) (bit_at (mixed_of β s))

-- an opened index is told as it is, and its parts are those of the set that it stands for
abbrev pub RefillsReturn : Type 0
RefillsReturn =
    (u β : ℕ) (us os ms : List ℕ) → Bytes us → Bytes os → Bytes ms → opening u β us os ms ≡ Ok tt
    → (told_of β (set_of u β us os ms) ≡ record { last = u; size = β; uniform = length us; marked = length os; mixed = length ms })
    × (parts_of β (set_of u β us os ms) ≡ us ∷ os ∷ ms ∷ [])
