-- What is told to C of a set in a form, and of a round.
use Rattle.forms.specs.declared.told.Told.{Told}
use Rattle.forms.specs.declared.told.Told.TheVariants.{Plain, List as Listed, Zombit, Pioneer}
use Rattle.round.specs.declared.state.Report.{Report}
use Rattle.bays.specs.declared.structs.BaysReport.{BaysReport}
use Rattle.bays.specs.declared.structs.BaysTold.{BaysTold}

abbrev pub told_numbers : Told → BaysTold
told_numbers (Plain t) = record { form = 0; last = t.last; number = 0; first = t.bits; second = 0; third = 0 }
told_numbers (Listed t) = record { form = 1; last = t.last; number = 0; first = t.numbers; second = 0; third = 0 }
told_numbers (Zombit t) = record { form = 2; last = t.last; number = t.size; first = t.uniform; second = t.marked; third = t.mixed }
told_numbers (Pioneer t) = record { form = 3; last = t.last; number = t.count; first = t.starts; second = t.sums; third = 0 }

abbrev pub report_numbers : Report → BaysReport
report_numbers r = record { handed = r.handed; stretches = r.stretches; place = r.place }
