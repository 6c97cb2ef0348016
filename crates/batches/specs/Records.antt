-- What a record says: whether it is refused, and the set that it stands for; and what filling that set answers.
use Rattle.std.specs.Prelude.{Bool, List, Ok, Err, Result}
use Rattle.faults.specs.Checks.{Verdict}
use Rattle.forms.specs.Opening.{opening_told, decoding_told}
use Rattle.batches.specs.declared.records.Record.{Record}
use Rattle.batches.specs.declared.refused.FillFault.{FillFault}
use Rattle.batches.specs.declared.refused.FillFault.TheVariants.{Opening, Filling}

abbrev pub opening_of : Record → Verdict
opening_of r = opening_told r.told r.bytes.now r.numbers.now

abbrev pub set_of : Record → List Bool
set_of r = decoding_told r.told r.bytes.now r.numbers.now

-- a record that is not opened is refused first, and then what is done with its set
abbrev pub filling_of : Verdict → Verdict → Result (Unit {0}) FillFault
filling_of (Err e) filled = Err (Opening e)
filling_of (Ok _) (Ok _) = Ok tt
filling_of (Ok _) (Err e) = Err (Filling e)
