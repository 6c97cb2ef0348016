-- What the two slots hold.
use Rattle.std.specs.Prelude.{Bool, List, false, [], ◌∷◌}
use Rattle.commands.specs.Said.{Written, written}
use Rattle.commands.specs.declared.command.Slot.{Slot}
use Rattle.commands.specs.declared.command.Slot.TheVariants.{Free, Class}
use Rattle.forms.specs.declared.choice.Choice.{Choice}
use Rattle.forms.specs.declared.choice.Choice.TheVariants as choices
use Rattle.forms.specs.Laying.{bytes_of, numbers_of}
use Rattle.forms.specs.Opening.{decoding_told}
use Rattle.forms.specs.Telling.{told_of}
use Rattle.slots.specs.declared.pair.Slots.{Slots}

-- an index in each: its numbers and its parts
pub record Held : Type 0 where
  pub free : Written
  pub class : Written

abbrev pub held : Slots → Held
held x = record { free = written x.free.draft; class = written x.class.draft }

abbrev pub held_in : Slot → Held → Written
held_in Free h = h.free
held_in Class h = h.class

-- another index in the place of a slot's
abbrev pub put : Slot → Written → Held → Held
put Free x h = record { free = x; class = h.class }
put Class x h = record { free = h.free; class = x }

-- the set that an index stands for
abbrev pub set_of : Written → List Bool
set_of x = decoding_told x.told x.bytes x.numbers

abbrev pub set_in : Slot → Held → List Bool
set_in slot h = set_of (held_in slot h)

-- the index of a set in a form
abbrev pub filled : Choice → List Bool → Written
filled x s = record { told = told_of x s; bytes = bytes_of x s; numbers = numbers_of x s }

-- at the start: one bay and no member, in the plain form
abbrev pub at_start : Held
at_start = record { free = filled choices.Plain (false ∷ []); class = filled choices.Plain (false ∷ []) }
