-- What every round keeps, over the free set f and the class c: its place is from 1 to the one behind its last bay, each bay handed
-- out took a stretch, and each stretch took a bay or more.
use Rattle.std.specs.Prelude.{suc, ◌<◌, ◌≤◌, Bool, List}
use Rattle.round.specs.declared.state.Report.{Report}
use Rattle.round.specs.Machine.{end}

abbrev pub Standing : List Bool → List Bool → Report → Type 0
Standing f c s = (1 ≤ s.place) × (s.place ≤ suc (end f c)) × (s.handed ≤ s.stretches) × (s.stretches < s.place)
