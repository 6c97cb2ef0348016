-- Whether an answer that has a value where all is well refuses, and by what.
use Rattle.std.specs.Prelude.{Ok, Err, Result}

abbrev pub refusal_of : {A E : Type 0} → Result A E → Result (Unit {0}) E
refusal_of (Ok _) = Ok tt
refusal_of (Err e) = Err e
