-- A batch: what it leaves in a memory, and whether it was refused.
use Rattle.std.specs.Prelude.{ℕ, List, map, length, take, Ok, Err, Result}
use Rattle.sets.specs.Lists.{over}

-- whether an answer refuses, and why
abbrev pub refusal_of : {A E : Type 0} → Result A E → Result (Unit {0}) E
refusal_of (Ok _) = Ok tt
refusal_of (Err e) = Err e

-- the new where all is well, and after a refusal the old
abbrev pub unless_refused : {A B E : Type 0} → Result A E → B → B → B
unless_refused (Ok _) new old = new
unless_refused (Err _) new old = old

-- the answers to what was asked, from the front of the memory on, as many as it has room for; what lies behind is kept
abbrev pub answered : {A : Type 0} → (A → ℕ) → List A → List ℕ → List ℕ
answered answer asked memory = over (map answer (take (length memory) asked)) memory
