-- What opening a plain index answers.
use Rattle.std.specs.Prelude.{ℕ, ◌⊎◌, List, Ok, Err}
use Rattle.faults.specs.Checks.{Verdict, last_check, located, first_of}
use Rattle.faults.specs.Numbers.{FaultBy}
use Rattle.faults.specs.declared.fault.Form as forms
use Rattle.sets.specs.Sets.{LastBay}
use Rattle.bits.specs.Checks.{bits_check, Whole, Clear, Spare}

-- the numbers are part 0, the bitvector is part 1
abbrev pub opening : ℕ → List ℕ → Verdict
opening u bytes = first_of (located forms.TheVariants.Plain 0 (last_check u)) (located forms.TheVariants.Plain 1 (bits_check u bytes))

-- a plain index is lawful with a last bay in range, exactly as many bytes as its bits take, and no 1 after the last bit
abbrev pub Lawful : ℕ → List ℕ → Type 0
Lawful u bytes = LastBay u × Whole u bytes × Clear u bytes

-- what is accepted is lawful; what is refused is not, for the first reason that fits
abbrev pub OpeningIs : ℕ → List ℕ → Verdict → Type 0
OpeningIs u bytes (Ok _) = Lawful u bytes
OpeningIs u bytes (Err e) =
    FaultBy 1 forms.TheVariants.Plain 0 e (LastBay u → ⊥)
    ⊎ (FaultBy 2 forms.TheVariants.Plain 1 e (LastBay u × (Whole u bytes → ⊥))
    ⊎ FaultBy 3 forms.TheVariants.Plain 1 e (LastBay u × Whole u bytes × Spare u bytes))
