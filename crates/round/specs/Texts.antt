-- How what a round gives reads.
use Rattle.std.specs.Prelude.{ℕ, List, ◌++◌, codes, decimal}
use Rattle.std.specs.Option.{unwrap_or}
use Rattle.round.specs.declared.state.Report.{Report}
use Rattle.round.specs.declared.state.Taken.{Taken}

-- the bay, 0 for none, and the stretches
abbrev pub taken_text : Taken → List ℕ
taken_text t = decimal (unwrap_or t.bay 0) ++ (codes " " ++ decimal t.stretches)

-- the bays handed out, the stretches and the place
abbrev pub report_text : Report → List ℕ
report_text r = decimal r.handed ++ (codes " " ++ (decimal r.stretches ++ (codes " " ++ decimal r.place)))
