-- How a chosen form reads: its name, and its block size if it has one.
use Rattle.std.specs.Prelude.{ℕ, List, ◌++◌, codes, decimal}
use Rattle.faults.specs.Texts.{form_name}
use Rattle.faults.specs.declared.fault.Form as names
use Rattle.forms.specs.declared.choice.Choice.{Choice}
use Rattle.forms.specs.declared.choice.Choice.TheVariants.{Plain, List as Listed, Zombit, Pioneer}

abbrev pub choice_text : Choice → List ℕ
choice_text Plain = form_name names.TheVariants.Plain
choice_text Listed = form_name names.TheVariants.List
choice_text (Zombit β) = form_name names.TheVariants.Zombit ++ (codes " " ++ decimal β)
choice_text Pioneer = form_name names.TheVariants.Pioneer
