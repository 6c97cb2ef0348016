-- Why a call is refused, in numbers: that of the refusal, the part, and the index of the call, 1 or 2, or 0 where it is of neither.
use Rattle.std.specs.Prelude.{ℕ, cond, Ok, Err, Result, nat_lt}
use Rattle.faults.specs.Numbers.{flaw_number, refusal_number}
use Rattle.faults.specs.declared.fault.Fault.{Fault}
use Rattle.opening.specs.declared.fault.PairFault.{PairFault}
use Rattle.opening.specs.declared.fault.Side.{Side}
use Rattle.opening.specs.declared.fault.Side.TheVariants.{F, C}
use Rattle.batches.specs.declared.refused.FillFault.{FillFault}
use Rattle.batches.specs.declared.refused.FillFault.TheVariants as fills
use Rattle.batches.specs.declared.refused.SheetFault.{SheetFault}
use Rattle.batches.specs.declared.refused.SheetFault.TheVariants as sheets
use Rattle.bays.specs.declared.structs.BaysFault.{BaysFault}

-- what a call answers: all is well, or the fault
abbrev pub Answer : Type 0
Answer = Result (Unit {0}) BaysFault

abbrev pub verdict_numbers : Answer → BaysFault
verdict_numbers (Ok _) = record { number = 0; part = 0; index = 0 }
verdict_numbers (Err e) = e

-- the first of two that refuses
abbrev pub first_refused : Answer → Answer → Answer
first_refused (Ok _) next = next
first_refused (Err e) next = Err e

-- numbers that name nothing
abbrev pub unnamed : ℕ → ℕ → BaysFault
unnamed number index = record { number = number; part = 0; index = index }

abbrev pub form_check : ℕ → ℕ → Answer
form_check form index = cond (nat_lt form 4) (Ok tt) (Err (unnamed 12 index))

abbrev pub question_check : ℕ → Answer
question_check q = cond (nat_lt q 5) (Ok tt) (Err (unnamed 13 0))

abbrev pub sort_check : ℕ → Answer
sort_check k = cond (nat_lt k 2) (Ok tt) (Err (unnamed 14 0))

-- the fault of one of the indexes
abbrev pub fault_at : ℕ → Fault → BaysFault
fault_at index e = record { number = flaw_number e.flaw; part = e.part; index = index }

abbrev pub fill_fault : FillFault → BaysFault
fill_fault (fills.Opening e) = fault_at 1 e
fill_fault (fills.Filling e) = fault_at 2 e

abbrev pub index_of : Side → ℕ
index_of F = 1
index_of C = 2

abbrev pub pair_fault : PairFault → BaysFault
pair_fault e = fault_at (index_of e.side) e.fault

abbrev pub sheet_fault : SheetFault → BaysFault
sheet_fault (sheets.Opening e) = pair_fault e
sheet_fault (sheets.Place e) = record { number = refusal_number e; part = 0; index = 0 }

-- an answer of the libraries, with its fault in numbers
abbrev pub in_numbers : {E : Type 0} → (E → BaysFault) → Result (Unit {0}) E → Answer
in_numbers fault (Ok _) = Ok tt
in_numbers fault (Err e) = Err (fault e)
