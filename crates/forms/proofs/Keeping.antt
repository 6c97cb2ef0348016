-- In each form, what is filled is opened, and stands for the set.
use Rattle.std.proofs.Common.{sym}
use Rattle.filling.specs.Layouts.{Keeps}
use Rattle.plain.proofs.Opened as plain
use Rattle.list.proofs.Opened as list
use Rattle.zombit.proofs.Measured.{size_taken}
use Rattle.zombit.proofs.Returned as zombit
use Rattle.pioneer.proofs.Filled as pioneer
use Rattle.forms.specs.declared.choice.Choice.{Choice}
use Rattle.forms.specs.declared.choice.Choice.TheVariants.{Plain, List as Listed, Zombit, Pioneer}
use Rattle.forms.specs.Choices.{layout_of}

pub keeps : (x : Choice) → Keeps (layout_of x)
keeps Plain = λ taken s sized. (plain.opened s sized, plain.stands s)
keeps Listed = λ taken s sized. (list.opened s sized, list.stands s)
keeps (Zombit β) = λ taken s sized. zombit.keeps β s (size_taken β (sym taken)) sized
keeps Pioneer = λ taken s sized. (pioneer.opened s sized, pioneer.stands s)
