-- A form, with its block size if it has one, by what measuring, filling and opening say of it; and what it owes.
use Rattle.std.specs.Prelude.{◌≡◌, ℕ, Bool, List, map, length, Ok, Option}
use Rattle.faults.specs.Checks.{Verdict}
use Rattle.faults.specs.declared.fault.Form.{Form}
use Rattle.sets.specs.Sets.{Sized}

pub record Layout : Type 0 where
  -- which form it is, and its block size
  pub form : Form
  pub size : Option ℕ
  -- what measuring answers
  pub measuring : Verdict
  -- the numbers that opening takes of a set, and the parts of its index
  pub numbers : List Bool → List ℕ
  pub parts : List Bool → List (List ℕ)
  -- what opening numbers and parts answers, and the set that they stand for
  pub opening : List ℕ → List (List ℕ) → Verdict
  pub decoding : List ℕ → List (List ℕ) → List Bool

-- the lengths of the parts
abbrev pub lengths : Layout → List Bool → List ℕ
lengths x s = map length (x.parts s)

-- what a form owes: where measuring does not refuse, the parts of a set are opened, and stand for the set
abbrev pub Keeps : Layout → Type 0
Keeps x =
    x.measuring ≡ Ok tt → (s : List Bool) → Sized s
    → (x.opening (x.numbers s) (x.parts s) ≡ Ok tt) × (x.decoding (x.numbers s) (x.parts s) ≡ s)
