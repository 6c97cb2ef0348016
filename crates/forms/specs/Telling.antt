-- What is told of a set in a form: the numbers that opening takes, and the lengths of the parts.
use Rattle.std.specs.Prelude.{◌≡◌, ℕ, Bool, List, [], ◌∷◌, sum}
use Rattle.filling.specs.Layouts.{lengths}
use Rattle.forms.specs.declared.choice.Choice.{Choice}
use Rattle.forms.specs.declared.choice.Choice.TheVariants as choices
use Rattle.forms.specs.declared.told.Told.{Told}
use Rattle.forms.specs.declared.told.Told.TheVariants.{Plain, List as Listed, Zombit, Pioneer}
use Rattle.forms.specs.Choices.{layout_of, form_of, size_of, by_width}
use Rattle.plain.specs.Filling as plain
use Rattle.list.specs.Filling as list
use Rattle.zombit.specs.Filling as zombit
use Rattle.pioneer.specs.Filling as pioneer

-- what a set takes
abbrev pub told_of : Choice → List Bool → Told
told_of choices.Plain s = Plain (plain.told_of s)
told_of choices.List s = Listed (list.told_of s)
told_of (choices.Zombit β) s = Zombit (zombit.told_of β s)
told_of choices.Pioneer s = Pioneer (pioneer.told_of s)

-- the form that it was told for
abbrev pub choice_told : Told → Choice
choice_told (Plain t) = choices.Plain
choice_told (Listed t) = choices.List
choice_told (Zombit t) = choices.Zombit t.size
choice_told (Pioneer t) = choices.Pioneer

-- the numbers that opening takes
abbrev pub opening_numbers : Told → List ℕ
opening_numbers (Plain t) = t.last ∷ []
opening_numbers (Listed t) = t.last ∷ []
opening_numbers (Zombit t) = t.last ∷ t.size ∷ []
opening_numbers (Pioneer t) = t.last ∷ t.count ∷ []

-- the lengths of the parts
abbrev pub lengths_told : Told → List ℕ
lengths_told (Plain t) = t.bits ∷ []
lengths_told (Listed t) = t.numbers ∷ []
lengths_told (Zombit t) = t.uniform ∷ t.marked ∷ t.mixed ∷ []
lengths_told (Pioneer t) = t.starts ∷ t.sums ∷ []

-- how many bytes, and how many 16-bit numbers, the parts take together
abbrev pub bytes_told : Told → ℕ
bytes_told t = by_width (choice_told t) (sum (lengths_told t)) 0

abbrev pub numbers_told : Told → ℕ
numbers_told t = by_width (choice_told t) 0 (sum (lengths_told t))

-- the law of what is told of a set: it is what the form of the choice says of it, and that is the form chosen, with its block size
abbrev pub TellsLayout : Type 0
TellsLayout =
    (x : Choice) (s : List Bool)
    → (choice_told (told_of x s) ≡ x)
    × (opening_numbers (told_of x s) ≡ (layout_of x).numbers s)
    × (lengths_told (told_of x s) ≡ lengths (layout_of x) s)
    × ((layout_of x).form ≡ form_of x)
    × ((layout_of x).size ≡ size_of x)
