-- What opening a pair answers, by what opening each of the two answers.
use Rattle.std.specs.Prelude.{◌≡◌, ◌⊎◌, Ok, Err, Result}
use Rattle.faults.specs.Checks.{Verdict}
use Rattle.opening.specs.declared.fault.PairFault.{PairFault}
use Rattle.opening.specs.declared.fault.Side.{Side}
use Rattle.opening.specs.declared.fault.Side.TheVariants.{F, C}

-- what opening a pair answers: all is well, or the fault of one of the two
abbrev pub PairVerdict : Type 0
PairVerdict = Result (Unit {0}) PairFault

abbrev pub sided : Side → Verdict → PairVerdict
sided side (Ok _) = Ok tt
sided side (Err e) = Err (record { side = side; fault = e })

-- the first of the two that refuses, with its side
abbrev pub pairing : Verdict → Verdict → PairVerdict
pairing (Ok _) c = sided C c
pairing (Err e) c = Err (record { side = F; fault = e })

-- accepted exactly if both are; else the fault of F's, or, where F's is accepted, of C's
abbrev pub PairingIs : Verdict → Verdict → PairVerdict → Type 0
PairingIs f c (Ok _) = (f ≡ Ok tt) × (c ≡ Ok tt)
PairingIs f c (Err e) =
    ((e.side ≡ F) × (f ≡ Err e.fault)) ⊎ ((e.side ≡ C) × (f ≡ Ok tt) × (c ≡ Err e.fault))
