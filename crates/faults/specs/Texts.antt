-- How a fault reads: the word refused, the number, the form's name and the part.
use Rattle.std.specs.Prelude.{ℕ, List, ◌++◌, codes, decimal}
use Rattle.faults.specs.declared.fault.Fault.{Fault}
use Rattle.faults.specs.declared.fault.Form.{Form}
use Rattle.faults.specs.declared.fault.Form.TheVariants.{Plain, List as Listed, Zombit, Pioneer}
use Rattle.faults.specs.Numbers.{flaw_number}

abbrev pub form_name : Form → List ℕ
form_name Plain = codes "plain"
form_name Listed = codes "list"
form_name Zombit = codes "zombit"
form_name Pioneer = codes "pioneer"

abbrev pub fault_text : Fault → List ℕ
fault_text x = codes "refused " ++ (decimal (flaw_number x.flaw) ++ (codes " " ++ (form_name x.form ++ (codes " " ++ decimal x.part))))
