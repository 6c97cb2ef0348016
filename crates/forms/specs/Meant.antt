-- What an opened index of any form holds, and the set that it stands for.
use Rattle.std.specs.Prelude.{◌≡◌, ℕ, Bool, List, [], ◌∷◌}
use Rattle.forms.specs.declared.choice.Choice.{Choice}
use Rattle.forms.specs.declared.choice.Choice.TheVariants as choices
use Rattle.forms.specs.declared.index.Index.{Index}
use Rattle.forms.specs.declared.index.Index.TheVariants.{Plain, List as Listed, Zombit, Pioneer}
use Rattle.forms.specs.declared.told.Told.{Told}
use Rattle.forms.specs.Opening.{fronts_told}
use Rattle.forms.specs.Telling.{choice_told, opening_numbers}
use Rattle.bits.specs.Bits.{bit_at}
use Rattle.plain.specs.Decoding as plain
use Rattle.list.specs.Decoding as list
use Rattle.zombit.specs.Meant as zombit
use Rattle.pioneer.specs.Runs as pioneer
use Rattle.pioneer.specs.Found.{member_of}
use Rattle.sets.specs.Made.{made_sized}
use Rattle.sets.specs.Sets.{Sized}

abbrev pub meant_of : Index → List Bool
meant_of (Plain p) = plain.set_of p.last p.bits.now
meant_of (Listed x) = list.set_of x.last x.numbers.now
meant_of (Zombit z) = zombit.meaning z
meant_of (Pioneer p) = pioneer.set_of p.last p.count p.starts.now p.sums.now

pub meant_sized : (x : Index) → Sized (meant_of x)
meant_sized (Plain p) = made_sized p.last (bit_at p.bits.now) p.sized
meant_sized (Listed x) = made_sized x.last (list.is_among x.numbers.now) x.sized
meant_sized (Zombit z) = made_sized z.blocks.last (zombit.bays z) z.blocks.sized
meant_sized (Pioneer p) = made_sized p.last (member_of p) p.sized

-- its form, the numbers that it was opened with, and its parts
abbrev pub choice_held : Index → Choice
choice_held (Plain p) = choices.Plain
choice_held (Listed x) = choices.List
choice_held (Zombit z) = choices.Zombit z.blocks.size
choice_held (Pioneer p) = choices.Pioneer

abbrev pub numbers_held : Index → List ℕ
numbers_held (Plain p) = p.last ∷ []
numbers_held (Listed x) = x.last ∷ []
numbers_held (Zombit z) = z.blocks.last ∷ z.blocks.size ∷ []
numbers_held (Pioneer p) = p.last ∷ p.count ∷ []

abbrev pub parts_held : Index → List (List ℕ)
parts_held (Plain p) = p.bits.now ∷ []
parts_held (Listed x) = x.numbers.now ∷ []
parts_held (Zombit z) = z.uniform.now ∷ z.marked.now ∷ z.mixed.now ∷ []
parts_held (Pioneer p) = p.starts.now ∷ p.sums.now ∷ []

-- an index has exactly the form and the numbers told, and the parts at the fronts of the memories
abbrev pub Holds : Index → Told → List ℕ → List ℕ → Type 0
Holds index t bytes numbers =
    (choice_held index ≡ choice_told t) × (numbers_held index ≡ opening_numbers t) × (parts_held index ≡ fronts_told t bytes numbers)
