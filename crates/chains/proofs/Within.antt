-- What is told of a set has room where no part is refused.
use Rattle.std.proofs.Common.{◌≡◌, ℕ, suc, ◌-◌, ◌≤◌, List, [], ◌∷◌, sum, leb, Ok, Err, arith}
use Rattle.std.proofs.lemmas.Bool.{cond_both, leb-true}
use Rattle.std.proofs.lemmas.List.Sums.{sum_by-cons}
use Rattle.faults.specs.Checks.{located}
use Rattle.faults.specs.declared.fault.Flaw.TheVariants.{Room}
use Rattle.faults.specs.declared.fault.Form.{Form}
use Rattle.filling.specs.Rooms.{room_check}
use Rattle.forms.specs.Choices.{layout_of, by_width}
use Rattle.forms.specs.Cutting.{rooms_in}
use Rattle.forms.specs.Laying.{rooms_told}
use Rattle.forms.specs.Telling.{bytes_told, choice_told, lengths_told, numbers_told}
use Rattle.forms.specs.declared.choice.Choice.{Choice}
use Rattle.forms.specs.declared.choice.Choice.TheVariants as choices
use Rattle.forms.specs.declared.told.Told.{Told}
use Rattle.forms.proofs.Laid.{both_ok}

pub room_fits : (form : Form) (k n m : ℕ) → located form k (room_check n m) ≡ Ok tt → n ≤ m
room_fits form k n m =
    cond_both (leb n m) (Ok tt) (Err Room) (λ check. located form k check ≡ Ok tt → n ≤ m)
    (λ fits h. leb-true n m fits)
    (λ short h. cc)

-- where each part has room behind those before it, all have room together
rooms_within : (form : Form) (k : ℕ) (lengths : List ℕ) (m : ℕ) → rooms_in form k lengths m ≡ Ok tt → sum lengths ≤ m
rooms_within form k [] m h = omega arith
rooms_within form k (n ∷ lengths) m h =
    let ok = both_ok (located form k (room_check n m)) (rooms_in form (suc k) lengths (m - n)) h in
    omega (arith, sum_by-cons (λ (j : ℕ). j) n lengths, room_fits form k n m ok.0, rooms_within form (suc k) lengths (m - n) ok.1)

within_width : (form : Form) (x : Choice) (lengths : List ℕ) (m n : ℕ) → rooms_in form 1 lengths (by_width x m n) ≡ Ok tt
    → (by_width x (sum lengths) 0 ≤ m) × (by_width x 0 (sum lengths) ≤ n)
within_width form choices.Plain lengths m n h = (rooms_within form 1 lengths m h, omega arith)
within_width form choices.List lengths m n h = (omega arith, rooms_within form 1 lengths n h)
within_width form (choices.Zombit β) lengths m n h = (rooms_within form 1 lengths m h, omega arith)
within_width form choices.Pioneer lengths m n h = (rooms_within form 1 lengths m h, omega arith)

pub told_within : (t : Told) (m n : ℕ) → rooms_told t m n ≡ Ok tt → (bytes_told t ≤ m) × (numbers_told t ≤ n)
told_within t m n h = within_width (layout_of (choice_told t)).form (choice_told t) (lengths_told t) m n h
