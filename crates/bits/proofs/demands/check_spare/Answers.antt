-- What is left to show of `check_spare`.
use Rattle.std.proofs.Common.{◌≡◌, ℕ, suc, ◌-◌, ◌*◌, List, length, Some, None, sym, ap, subst, add-one}
use Rattle.faults.specs.Checks.{Check, CheckIs, none_found}
use Rattle.faults.specs.declared.fault.Flaw.TheVariants.{Content}
use Rattle.sets.specs.Search.{first_from}
use Rattle.bits.specs.Bits.{bit_at}
use Rattle.bits.specs.Checks.{Clear, spare_check}
use Rattle.bits.proofs.Checked.{spare_law}
use Rattle.bits.proofs.demands.check_spare.Goals as goal

lawful : (n : ℕ) (bs : List ℕ) (r : Check) → spare_check n bs ≡ r → CheckIs 3 (Clear n bs) r
lawful n bs r e = subst (λ (t : Check). CheckIs 3 (Clear n bs) t) e (spare_law n bs)

pub returns-in-Some : goal.returns-in-Some
returns-in-Some c =
    let bs = c.args.bytes.now in
    let n = c.args.n in
    let e : first_from (bit_at bs) (suc n) (suc (8 * length bs) - suc n) ≡ Some c.in-Some.field-0 = sym (simp add-one at c.in-Some.ensures) in
    record { answer = ap (none_found Content) (sym e); law = lawful n bs _ (ap (none_found Content) e) }

pub returns-in-None : goal.returns-in-None
returns-in-None c =
    let bs = c.args.bytes.now in
    let n = c.args.n in
    let e : first_from (bit_at bs) (suc n) (suc (8 * length bs) - suc n) ≡ None = sym (simp add-one at c.in-None.ensures) in
    record { answer = ap (none_found Content) (sym e); law = lawful n bs _ (ap (none_found Content) e) }
