-- The steps of one side, judged one after the other.
use Rattle.std.proofs.Common.{Result, IfOk, subst, ◌≡◌, ℕ, suc, ◌+◌, ◌-◌, ◌<◌, Bool, List, ◌∷◌, length, drop, get_or, Ok, Err, refl, sym, ap, ◌∙◌, arith, length-append, add-one, drop-cons}
use Rattle.faults.specs.Checks.{Verdict, first_of}
use Rattle.faults.specs.declared.fault.Fault.{Fault}
use Rattle.opening.specs.declared.fault.Side.{Side}
use Rattle.forms.specs.declared.choice.Choice.{Choice}
use Rattle.forms.specs.declared.choice.Choice.TheVariants.{Plain}
use Rattle.chains.specs.declared.extent.Extent.{Extent}
use Rattle.chains.specs.Judging.{Stage, numbered, ChainVerdict, placed, first_fault, sizing, rooming}
use Rattle.chains.specs.Laid.{laid_bytes, laid_numbers}
use Rattle.forms.specs.Choices.{layout_of}
use Rattle.forms.specs.Laying.{rooms_told, bytes_of, numbers_of}
use Rattle.forms.specs.Telling.{told_of, bytes_told, numbers_told}
use Rattle.forms.proofs.Laid.{told_bytes, told_numbers}

-- a step that was accepted, and those behind it
pub both_accepted : (t : Stage) (v : Verdict) (w : ChainVerdict) → first_fault (placed t v) w ≡ Ok tt → (v ≡ Ok tt) × (w ≡ Ok tt)
both_accepted t (Ok _) w h = (refl, h)
both_accepted t (Err e) w h = cc

-- step i + 1, and those behind it
module _ (side : Side) (s : List Bool) (choices : List Choice) (i : ℕ) (within : i < length choices) where
  abbrev x : Choice
  x = get_or choices i Plain

  abbrev here : Stage
  here = record { side = side; step = suc i; choice = x; set = s }

  abbrev left : List Choice
  left = drop i choices

  abbrev behind : List Choice
  behind = drop (i + 1) choices

  shape : left ≡ x ∷ behind
  shape = drop-cons choices i Plain within ∙ ap (λ k. x ∷ drop k choices) (sym (add-one i))

  next : numbered side s (suc i) left ≡ here ∷ numbered side s (suc (i + 1)) behind
  next = ap (numbered side s (suc i)) shape ∙ ap (λ k. here ∷ numbered side s (suc k) behind) (sym (add-one i))

  module _ (sized : sizing (numbered side s (suc i) left) ≡ Ok tt) where
    both : ((layout_of x).measuring ≡ Ok tt) × (sizing (numbered side s (suc (i + 1)) behind) ≡ Ok tt)
    both = both_accepted here (layout_of x).measuring (sizing (numbered side s (suc (i + 1)) behind)) (sym (ap sizing next) ∙ sized)

    pub sized_on : sizing (numbered side s (suc (i + 1)) behind) ≡ Ok tt
    sized_on = both.1

    module _ (m n : ℕ) where
      abbrev rest : ChainVerdict
      rest = rooming (numbered side s (suc (i + 1)) behind) (m - bytes_told (told_of x s)) (n - numbers_told (told_of x s))

      pub roomed_on : Ok tt ≡ first_of (layout_of x).measuring (rooms_told (told_of x s) m n) → rooming (numbered side s (suc i) left) m n ≡ rest
      roomed_on is =
          ap (λ ts. rooming ts m n) next
          ∙ ap (λ v. first_fault (placed here v) rest) (sym (is ∙ ap (λ w. first_of w (rooms_told (told_of x s) m n)) both.0))

  pub bytes_on : (m : ℕ) → m - length (laid_bytes left s) ≡ (m - bytes_told (told_of x s)) - length (laid_bytes behind s)
  bytes_on m =
      let long : length (laid_bytes left s) ≡ length (bytes_of x s) + length (laid_bytes behind s) = ap (λ ys. length (laid_bytes ys s)) shape ∙ length-append (bytes_of x s) (laid_bytes behind s) in
      omega (arith, told_bytes x s)

  pub numbers_on : (n : ℕ) → n - length (laid_numbers left s) ≡ (n - numbers_told (told_of x s)) - length (laid_numbers behind s)
  numbers_on n =
      let long : length (laid_numbers left s) ≡ length (numbers_of x s) + length (laid_numbers behind s) = ap (λ ys. length (laid_numbers ys s)) shape ∙ length-append (numbers_of x s) (laid_numbers behind s) in
      omega (arith, told_numbers x s)

-- what is left by an answer that refuses nothing
pub left_is : (answer : Result Extent Fault) (room is : Extent) → answer ≡ Ok room → IfOk answer (λ e. e ≡ is) → room ≡ is
left_is answer room is ok law = subst (λ a. IfOk a (λ e. e ≡ is)) ok law
