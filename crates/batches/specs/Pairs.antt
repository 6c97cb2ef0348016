-- What a batch answers of a pair of sets: f is free, c is the class.
use Rattle.std.specs.Prelude.{ℕ, Bool, List, Ok, Err, Option, Result}
use Rattle.faults.specs.declared.fault.Refusal.{Refusal}
use Rattle.opening.specs.Pairs.{PairVerdict, pairing}
use Rattle.round.specs.declared.state.Report.{Report}
use Rattle.round.specs.Calls.{go_to, count_in, nearest_at}
use Rattle.round.specs.Machine.{end}
use Rattle.round.specs.Sheets.{Page, sheet_from}
use Rattle.round.specs.States.{fresh, after_go, after_sheet}
use Rattle.batches.specs.declared.records.Record.{Record}
use Rattle.batches.specs.declared.refused.SheetFault.{SheetFault}
use Rattle.batches.specs.declared.refused.SheetFault.TheVariants.{Opening, Place}
use Rattle.batches.specs.Questions.{or_none}
use Rattle.batches.specs.Records.{opening_of}

-- what opening both answers
abbrev pub pair_of : Record → Record → PairVerdict
pair_of f c = pairing (opening_of f) (opening_of c)

-- what a sheet answers: a pair that is not opened is refused first, and then a place
abbrev pub sheeting : PairVerdict → Result (Unit {0}) Refusal → Result (Unit {0}) SheetFault
sheeting (Err e) gone = Err (Opening e)
sheeting (Ok _) (Ok _) = Ok tt
sheeting (Ok _) (Err e) = Err (Place e)

-- a number that was answered, or 0 for a refusal
abbrev pub or_refused : Result ℕ Refusal → ℕ
or_refused (Ok n) = n
or_refused (Err e) = 0

-- a bay that was answered, or 0 for none and for a refusal
abbrev pub bay_or_refused : Result (Option ℕ) Refusal → ℕ
bay_or_refused (Ok bay) = or_none bay
bay_or_refused (Err e) = 0

module _ (f c : List Bool) where
  -- a fresh round goes to a place
  abbrev pub going : ℕ → Result (Unit {0}) Refusal
  going place = go_to (end f c) fresh.place place

  -- the sheet from a place on, with room for so many bays
  abbrev pub sheet_at : ℕ → ℕ → Page
  sheet_at place room = sheet_from f c room place

  -- the report with which the round is closed after it
  abbrev pub report_at : ℕ → ℕ → Report
  report_at place room = after_sheet (after_go (Ok tt) fresh place) (sheet_at place room)

  -- the free bay nearest to a place; 0 for none, and where the place is refused
  abbrev pub nearest_number : ℕ → ℕ
  nearest_number place = bay_or_refused (nearest_at f (end f c) place)

  -- how many free bays lie in a range; 0 where the range is refused
  abbrev pub count_number : ℕ × ℕ → ℕ
  count_number range = or_refused (count_in f (end f c) range.0 range.1)
