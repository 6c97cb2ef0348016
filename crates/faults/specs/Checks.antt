-- Checks that are made one after the other, of which the first that refuses counts.
use Rattle.std.specs.Prelude.{ℕ, cond, ◌⊎◌, Some, None, Ok, Err, Option, Result, nat_le}
use Rattle.sets.specs.Sets.{LastBay}
use Rattle.faults.specs.Numbers.{FlawBy, FaultBy}
use Rattle.faults.specs.declared.fault.Fault.{Fault}
use Rattle.faults.specs.declared.fault.Flaw.{Flaw}
use Rattle.faults.specs.declared.fault.Flaw.TheVariants.{Numbers}
use Rattle.faults.specs.declared.fault.Form.{Form}

-- what a check answers: all is well, or the flaw
abbrev pub Check : Type 0
Check = Result (Unit {0}) Flaw

-- a number must lie in a range
abbrev pub range_check : Flaw → ℕ → ℕ → ℕ → Check
range_check flaw low high x = cond (nat_le low x) (cond (nat_le x high) (Ok tt) (Err flaw)) (Err flaw)

abbrev pub last_check : ℕ → Check
last_check last = range_check Numbers 1 65535 last

-- the check answers by this number exactly if this does not hold
abbrev pub CheckIs : ℕ → Type 0 → Check → Type 0
CheckIs n P (Ok _) = P
CheckIs n P (Err e) = FlawBy n e (P → ⊥)

-- a last bay is taken exactly if a garage may have it
abbrev pub LastIs : ℕ → Check → Type 0
LastIs last = CheckIs 1 (LastBay last)

-- what was looked for is a flaw where it is found
abbrev pub none_found : Flaw → Option ℕ → Check
none_found flaw None = Ok tt
none_found flaw (Some i) = Err flaw

-- what opening or filling answers: all is well, or the fault
abbrev pub Verdict : Type 0
Verdict = Result (Unit {0}) Fault

abbrev pub located : Form → ℕ → Check → Verdict
located form part (Ok _) = Ok tt
located form part (Err e) = Err (record { flaw = e; form = form; part = part })

-- the first of two verdicts that refuses
abbrev pub first_of : Verdict → Verdict → Verdict
first_of (Ok _) next = next
first_of (Err e) next = Err e

-- what is asked, one demand after the other: this must hold, else the answer is a fault by this number in this part, and then the rest is asked
abbrev pub Needs : Form → ℕ → ℕ → Type 0 → (Verdict → Type 0) → Verdict → Type 0
Needs form n part P rest (Ok _) = P × rest (Ok tt)
Needs form n part P rest (Err e) = FaultBy n form part e (P → ⊥) ⊎ (P × rest (Err e))

-- nothing more is asked
abbrev pub Accepted : Verdict → Type 0
Accepted (Ok _) = Unit {0}
Accepted (Err e) = ⊥
