-- The number of each refusal. Where several fit, the first in the order 1, 4, 2, 3, 5 to 11 counts.
use Rattle.std.specs.Prelude.{◌≡◌, ℕ}
use Rattle.faults.specs.declared.fault.Fault.{Fault}
use Rattle.faults.specs.declared.fault.Form.{Form}
use Rattle.faults.specs.declared.fault.Flaw.{Flaw}
use Rattle.faults.specs.declared.fault.Flaw.TheVariants.{Numbers, Length, Content, BlockSize, Room, Unlawful}
use Rattle.faults.specs.declared.fault.Refusal.{Refusal}
use Rattle.faults.specs.declared.fault.Refusal.TheVariants.{NoBay, NoSign, Beyond, Behind, TooFew}

abbrev pub flaw_number : Flaw → ℕ
flaw_number Numbers = 1
flaw_number Length = 2
flaw_number Content = 3
flaw_number BlockSize = 4
flaw_number Room = 5
flaw_number Unlawful = 6

abbrev pub refusal_number : Refusal → ℕ
refusal_number NoBay = 7
refusal_number NoSign = 8
refusal_number Beyond = 9
refusal_number Behind = 10
refusal_number TooFew = 11

-- the flaw has this number, and for this reason
abbrev pub FlawBy : ℕ → Flaw → Type 0 → Type 0
FlawBy n e why = (flaw_number e ≡ n) × why

-- the fault has this number, form and part, and for this reason
abbrev pub FaultBy : ℕ → Form → ℕ → Fault → Type 0 → Type 0
FaultBy n form part e why = (flaw_number e.flaw ≡ n) × (e.form ≡ form) × (e.part ≡ part) × why

-- the refusal has this number, and for this reason
abbrev pub RefusedBy : ℕ → Refusal → Type 0 → Type 0
RefusedBy n e why = (refusal_number e ≡ n) × why
