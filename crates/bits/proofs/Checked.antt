-- What the checks of bytes ask for.
use Rattle.std.proofs.Common.{ℕ, suc, ◌-◌, ◌*◌, eqb, List, length, Some, None, Ok, Err, Option, refl, inl, inr, ⊎_elim, arith}
use Rattle.faults.specs.Checks.{CheckIs, none_found}
use Rattle.faults.specs.declared.fault.Flaw.TheVariants.{Length, Content}
use Rattle.std.proofs.lemmas.Bool.{cases_lt, both_ways, cond_both, eqb-true, eqb-false}
use Rattle.sets.specs.Search.{first_from}
use Rattle.sets.proofs.Tests.{FirstIs, first_law}
use Rattle.bits.specs.Bits.{bit_at}
use Rattle.sets.specs.Packing.{bytes_for}
use Rattle.bits.specs.Checks.{Whole, Clear, CheckedIs, length_check, spare_check, bits_check}
use Rattle.bits.proofs.Bytes.{bit_past}

module _ (n : ℕ) (bytes : List ℕ) where
  pub length_law : CheckIs 2 (Whole n bytes) (length_check n bytes)
  length_law =
      cond_both (eqb (length bytes) (bytes_for n)) (Ok tt) (Err Length) (CheckIs 2 (Whole n bytes))
      (λ e. eqb-true _ _ e) (λ e. (refl, eqb-false _ _ e))

  pub spare_law : CheckIs 3 (Clear n bytes) (spare_check n bytes)
  spare_law = found (first_from (bit_at bytes) (suc n) _) (first_law (bit_at bytes) (suc n) _)
    where
      found : (r : Option ℕ) → FirstIs (bit_at bytes) (suc n) (suc (8 * length bytes) - suc n) r → CheckIs 3 (Clear n bytes) (none_found Content r)
      found None law = λ i l. ⊎_elim (λ beyond. bit_past bytes i beyond) (λ within. law i l (omega arith)) (cases_lt (8 * length bytes) i)
      found (Some i) law = (refl, λ clear. both_ways _ (clear i law.0) law.2)

  pub bits_law : CheckedIs n bytes (bits_check n bytes)
  bits_law =
      cond_both (eqb (length bytes) (bytes_for n)) (spare_check n bytes) (Err Length) (CheckedIs n bytes)
      (λ e. found (first_from (bit_at bytes) (suc n) _) (first_law (bit_at bytes) (suc n) _) (eqb-true _ _ e))
      (λ e. inl (refl, eqb-false _ _ e))
    where
      found : (r : Option ℕ) → FirstIs (bit_at bytes) (suc n) (suc (8 * length bytes) - suc n) r → Whole n bytes → CheckedIs n bytes (none_found Content r)
      found None law whole = (whole, λ i l. ⊎_elim (λ beyond. bit_past bytes i beyond) (λ within. law i l (omega arith)) (cases_lt (8 * length bytes) i))
      found (Some i) law whole = inr (refl, (whole, (i, (law.0, law.2))))
