-- What a check says, and that one check after the other meets one demand after the other.
use Rattle.std.proofs.Common.{◌≡◌, ℕ, ◌≤◌, leb, Ok, Err, refl, inl, inr, arith}
use Rattle.faults.specs.Checks.{Check, CheckIs, range_check, Verdict, located, first_of, Needs}
use Rattle.faults.specs.Numbers.{flaw_number}
use Rattle.faults.specs.declared.fault.Flaw.{Flaw}
use Rattle.faults.specs.declared.fault.Form.{Form}
use Rattle.std.proofs.lemmas.Bool.{cond_both, leb-true, leb-false}

pub range_law : (flaw : Flaw) (low high x : ℕ) → CheckIs (flaw_number flaw) ((low ≤ x) × (x ≤ high)) (range_check flaw low high x)
range_law flaw low high x =
    cond_both (leb low x) _ (Err flaw) (CheckIs (flaw_number flaw) ((low ≤ x) × (x ≤ high)))
    (λ some.
    cond_both (leb x high) (Ok tt) (Err flaw) (CheckIs (flaw_number flaw) ((low ≤ x) × (x ≤ high)))
    (λ most. (leb-true low x some, leb-true x high most))
    (λ more. (refl, λ h. omega (arith, h.1, leb-false x high more))))
    (λ few. (refl, λ h. omega (arith, h.0, leb-false low x few)))

pub then : (form : Form) (n part : ℕ) (P : Type 0) (check : Check) (rest : Verdict → Type 0) (verdict : Verdict) → CheckIs n P check → (P → rest verdict) → Needs form n part P rest (first_of (located form part check) verdict)
then form n part P (Ok _) rest (Ok _) law on = (law, on law)
then form n part P (Ok _) rest (Err e) law on = inr (law, on law)
then form n part P (Err e) rest verdict law on = inl (law.0, refl, refl, law.1)

-- a check that asks for what holds has nothing to refuse
pub passed : (n : ℕ) (P : Type 0) (check : Check) → CheckIs n P check → P → check ≡ Ok tt
passed n P (Ok _) law h = refl
passed n P (Err e) law h = absurd (law.1 h)

-- a check that has refused nothing asked for what holds
pub held : (form : Form) (n part : ℕ) (P : Type 0) (check : Check) → CheckIs n P check → located form part check ≡ Ok tt → P
held form n part P (Ok _) law e = law
held form n part P (Err f) law e = absurd cc

-- and so did the first of two, and the rest has refused nothing
pub held_first : (form : Form) (n part : ℕ) (P : Type 0) (check : Check) (rest : Verdict) → CheckIs n P check → first_of (located form part check) rest ≡ Ok tt → P × (rest ≡ Ok tt)
held_first form n part P (Ok _) rest law e = (law, e)
held_first form n part P (Err f) rest law e = absurd cc
