-- When bytes are a bitvector of n bits: there are exactly as many as the bits take, and each bit after the last is 0.
use Rattle.std.specs.Prelude.{◌≡◌, ℕ, suc, ◌-◌, ◌*◌, ◌<◌, true, false, cond, ◌⊎◌, List, length, Ok, Err, ◌==◌}
use Rattle.faults.specs.Checks.{Check, none_found}
use Rattle.faults.specs.Numbers.{FlawBy}
use Rattle.faults.specs.declared.fault.Flaw.TheVariants.{Length, Content}
use Rattle.sets.specs.Search.{first_from}
use Rattle.bits.specs.Bits.{bit_at}
use Rattle.sets.specs.Packing.{bytes_for}

-- each demand by itself
abbrev pub length_check : ℕ → List ℕ → Check
length_check n bytes = cond (length bytes == bytes_for n) (Ok tt) (Err Length)

abbrev pub spare_check : ℕ → List ℕ → Check
spare_check n bytes = none_found Content (first_from (bit_at bytes) (suc n) (suc (8 * length bytes) - suc n))

-- one after the other
abbrev pub bits_check : ℕ → List ℕ → Check
bits_check n bytes = cond (length bytes == bytes_for n) (spare_check n bytes) (Err Length)

abbrev pub Whole : ℕ → List ℕ → Type 0
Whole n bytes = length bytes ≡ bytes_for n

abbrev pub Clear : ℕ → List ℕ → Type 0
Clear n bytes = (i : ℕ) → n < i → bit_at bytes i ≡ false

-- a bit after the last is 1
abbrev pub Spare : ℕ → List ℕ → Type 0
Spare n bytes = (i : ℕ) × ((n < i) × (bit_at bytes i ≡ true))

-- which answer is due
abbrev pub CheckedIs : ℕ → List ℕ → Check → Type 0
CheckedIs n bytes (Ok _) = Whole n bytes × Clear n bytes
CheckedIs n bytes (Err e) = FlawBy 2 e (Whole n bytes → ⊥) ⊎ FlawBy 3 e (Whole n bytes × Spare n bytes)
