-- Measuring refuses the block sizes that a form does not have, and no others.
use Rattle.std.proofs.Common.{◌≡◌, ℕ, Ok, Err, refl, subst}
use Rattle.faults.specs.Checks.{Check, CheckIs, Verdict, located}
use Rattle.faults.specs.Numbers.{FaultBy}
use Rattle.faults.specs.declared.fault.Flaw.TheVariants.{BlockSize}
use Rattle.faults.specs.declared.fault.Form.{Form}
use Rattle.faults.specs.declared.fault.Form as forms
use Rattle.faults.proofs.Steps.{range_law}
use Rattle.zombit.specs.Opening.{size_check}
use Rattle.forms.specs.Choices.{layout_of, SizeFits}
use Rattle.forms.specs.declared.choice.Choice.{Choice}
use Rattle.forms.specs.declared.choice.Choice.TheVariants.{Plain, List as Listed, Zombit, Pioneer}

-- a verdict by this number on a part: this holds, or the fault says that it does not
abbrev pub Says : Form → ℕ → ℕ → Type 0 → Verdict → Type 0
Says form n part P (Ok _) = P
Says form n part P (Err e) = FaultBy n form part e (P → ⊥)

pub located_says : (form : Form) (n part : ℕ) (P : Type 0) (check : Check) → CheckIs n P check → Says form n part P (located form part check)
located_says form n part P (Ok _) law = law
located_says form n part P (Err e) law = (law.0, refl, refl, law.1)

pub size_says : (x : Choice) → Says (layout_of x).form 4 0 (SizeFits x) (layout_of x).measuring
size_says Plain = tt
size_says Listed = tt
size_says (Zombit β) = located_says forms.TheVariants.Zombit 4 0 (SizeFits (Zombit β)) (size_check β) (range_law BlockSize 2 4096 β)
size_says Pioneer = tt

pub size_fits : (x : Choice) → (layout_of x).measuring ≡ Ok tt → SizeFits x
size_fits x ok = subst (Says (layout_of x).form 4 0 (SizeFits x)) ok (size_says x)

no_fault : (form : Form) (P : Type 0) (v : Verdict) → Says form 4 0 P v → P → v ≡ Ok tt
no_fault form P (Ok _) law fits = refl
no_fault form P (Err e) law fits = absurd (law.3 fits)

pub measured : (x : Choice) → SizeFits x → (layout_of x).measuring ≡ Ok tt
measured x fits = no_fault (layout_of x).form (SizeFits x) (layout_of x).measuring (size_says x) fits
