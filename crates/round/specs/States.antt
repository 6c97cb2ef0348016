-- The state of a round is what its closing report shows; each call that moves it is a step.
use Rattle.std.specs.Prelude.{ℕ, ◌+◌, Bool, List, [], ◌∷◌, length, Some, None, Ok, Err, Option, Result}
use Rattle.faults.specs.declared.fault.Refusal.{Refusal}
use Rattle.round.specs.declared.state.Report.{Report}
use Rattle.round.specs.Machine.{next_from}
use Rattle.round.specs.Sheets.{Page}

abbrev pub fresh : Report
fresh = record { handed = 0; stretches = 0; place = 1 }

-- how many bays next handed out
abbrev pub handed_by : Option ℕ → ℕ
handed_by None = 0
handed_by (Some q) = 1

-- the bay that next handed out, where there was one
abbrev pub bay_of : Option ℕ → List ℕ
bay_of None = []
bay_of (Some q) = q ∷ []

abbrev pub after_next : List Bool → List Bool → Report → Report
after_next f c s =
    let w = next_from f c s.place in
    record { handed = s.handed + handed_by w.taken.bay; stretches = s.stretches + w.taken.stretches; place = w.place }

abbrev pub after_sheet : Report → Page → Report
after_sheet s r = record { handed = s.handed + length r.bays; stretches = s.stretches + r.stretches; place = r.place }

-- a go to q moves the place where it is accepted
abbrev pub after_go : Result (Unit {0}) Refusal → Report → ℕ → Report
after_go (Ok u) s q = record { handed = s.handed; stretches = s.stretches; place = q }
after_go (Err e) s q = s
