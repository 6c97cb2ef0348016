-- An opened list index that is filled anew gives its own numbers.
use Rattle.std.specs.Prelude.{◌≡◌, ℕ, Bool, true, List, [], ◌∷◌, length, Ok}
use Rattle.sets.specs.Lists.{ListOf}
use Rattle.sets.specs.Sets.{is_member}
use Rattle.list.specs.Decoding.{set_of}
use Rattle.list.specs.Filling.{numbers_of, parts_of, told_of}
use Rattle.list.specs.Opening.{opening}

-- the numbers of a set are exactly its members, each once, rising
abbrev pub PartsTell : Type 0
PartsTell = (s : List Bool) → ListOf (λ i. is_member s i ≡ true) (numbers_of s)

abbrev pub RefillsReturn : Type 0
RefillsReturn =
    (u : ℕ) (ns : List ℕ) → opening u ns ≡ Ok tt
    → (told_of (set_of u ns) ≡ record { last = u; numbers = length ns }) × (parts_of (set_of u ns) ≡ ns ∷ [])
