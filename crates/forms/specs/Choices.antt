-- The forms to choose from, by what each says of a set, and by which of two memories its parts go to: one of bytes, and one of 16-bit numbers.
use Rattle.std.specs.Prelude.{◌≡◌, ℕ, Option, None, Some, Ok}
use Rattle.faults.specs.Checks.{Verdict, Needs, Accepted}
use Rattle.faults.specs.declared.fault.Form.{Form}
use Rattle.faults.specs.declared.fault.Form.TheVariants as names
use Rattle.filling.specs.Layouts.{Layout}
use Rattle.forms.specs.declared.choice.Choice.{Choice}
use Rattle.forms.specs.declared.choice.Choice.TheVariants.{Plain, List as Listed, Zombit, Pioneer}
use Rattle.plain.specs.Filling.{plain_layout}
use Rattle.list.specs.Filling.{list_layout}
use Rattle.zombit.specs.Filling.{zombit_layout}
use Rattle.zombit.specs.Lawful.{BlockSize}
use Rattle.pioneer.specs.Filling.{pioneer_layout}

abbrev pub layout_of : Choice → Layout
layout_of Plain = plain_layout
layout_of Listed = list_layout
layout_of (Zombit β) = zombit_layout β
layout_of Pioneer = pioneer_layout

-- which of the forms it is, and its block size
abbrev pub form_of : Choice → Form
form_of Plain = names.Plain
form_of Listed = names.List
form_of (Zombit β) = names.Zombit
form_of Pioneer = names.Pioneer

abbrev pub size_of : Choice → Option ℕ
size_of Plain = None
size_of Listed = None
size_of (Zombit β) = Some β
size_of Pioneer = None

-- the form has such blocks
abbrev pub SizeFits : Choice → Type 0
SizeFits Plain = Unit {0}
SizeFits Listed = Unit {0}
SizeFits (Zombit β) = BlockSize β
SizeFits Pioneer = Unit {0}

-- measuring refuses blocks that the form does not have, and nothing else
abbrev pub MeasuringIs : Choice → Verdict → Type 0
MeasuringIs x = Needs (layout_of x).form 4 0 (SizeFits x) Accepted

-- so a form measures in all blocks that it has
abbrev pub Measures : Type 0
Measures = (x : Choice) → SizeFits x → (layout_of x).measuring ≡ Ok tt

-- the first for a form whose parts are bytes, the second for the one whose part is 16-bit numbers
abbrev pub by_width : {A : Type 0} → Choice → A → A → A
by_width Plain bytes numbers = bytes
by_width Listed bytes numbers = numbers
by_width (Zombit β) bytes numbers = bytes
by_width Pioneer bytes numbers = bytes
