-- What measuring answers.
use Rattle.std.specs.Prelude.{◌≡◌, ℕ, Bool, List, Ok, Err, Result}
use Rattle.faults.specs.Checks.{Verdict, located, Needs, Accepted}
use Rattle.faults.specs.declared.fault.Fault.{Fault}
use Rattle.faults.specs.declared.fault.Form as forms
use Rattle.zombit.specs.Filling.{told_of}
use Rattle.zombit.specs.Lawful.{BlockSize}
use Rattle.zombit.specs.Opening.{size_check}
use Rattle.zombit.specs.declared.slip.ZombitSlip.{ZombitSlip}
use Rattle.zombit.specs.declared.told.ZombitTold.{ZombitTold}

-- a block size is in range, and nothing else is asked
abbrev pub SizeIs : ℕ → Verdict → Type 0
SizeIs β = Needs forms.TheVariants.Zombit 4 0 (BlockSize β) Accepted

-- what is told where nothing was refused
abbrev pub told_by : Verdict → ℕ → List Bool → Result ZombitTold Fault
told_by (Ok _) β s = Ok (told_of β s)
told_by (Err e) β s = Err e

abbrev pub telling : ℕ → List Bool → Result ZombitTold Fault
telling β s = told_by (located forms.TheVariants.Zombit 0 (size_check β)) β s

-- which refusal comes for which reason; and else what is told is that of the set
abbrev pub TellingIs : ℕ → List Bool → Result ZombitTold Fault → Type 0
TellingIs β s (Ok told) = SizeIs β (Ok tt) × (told ≡ told_of β s)
TellingIs β s (Err e) = SizeIs β (Err e)

-- a set with what its slip tells, or the set itself with the fault
abbrev pub Measured : Type 0 → Type 0
Measured S = Result (S × ZombitTold) (S × Fault)

abbrev pub slipped : {S : Type 0} → S → Result ZombitTold Fault → Measured S
slipped set (Ok told) = Ok (set, told)
slipped set (Err e) = Err (set, e)

abbrev pub measuring : {S : Type 0} → ℕ → S → List Bool → Measured S
measuring β set s = slipped set (telling β s)

-- a slip is its set and what it tells, and no more
abbrev pub in_parts : {S : Type 0} {m : _} → Result (ZombitSlip S m) (S × Fault) → Measured S
in_parts (Ok x) = Ok (x.set, x.told)
in_parts (Err e) = Err e

-- which refusal comes for which reason, with the very set; and else the slip has that set
abbrev pub MeasuringIs : {S : Type 0} {m : _} → ℕ → S → Result (ZombitSlip S m) (S × Fault) → Type 0
MeasuringIs β set (Ok x) = SizeIs β (Ok tt) × (x.set ≡ set) × (x.told.size ≡ β)
MeasuringIs β set (Err e) = SizeIs β (Err e.1) × (e.0 ≡ set)
