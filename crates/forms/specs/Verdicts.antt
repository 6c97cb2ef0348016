-- Whether an answer that has a value where all is well refuses, and why.
use Rattle.std.specs.Prelude.{Ok, Err, Result}
use Rattle.faults.specs.Checks.{Verdict}
use Rattle.faults.specs.declared.fault.Fault.{Fault}

abbrev pub verdict_of : {A : Type 0} → Result A Fault → Verdict
verdict_of (Ok _) = Ok tt
verdict_of (Err e) = Err e
