-- What stands after an answer.
use Rattle.std.specs.Prelude.{Ok, Err, Result}

-- the new where all is well, and after a refusal the old
abbrev pub Placed : {E : Type 0} → Result (Unit {0}) E → Type 0 → Type 0 → Type 0
Placed (Ok _) new old = new
Placed (Err _) new old = old
