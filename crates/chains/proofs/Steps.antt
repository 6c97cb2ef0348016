-- Where the steps of a chain lie one behind the other, the set goes through them.
use Rattle.std.proofs.Common.{◌≡◌, ℕ, ◌≤◌, Bool, List, [], ◌∷◌, ◌++◌, length, drop, map, refl, sym, ap, ◌∙◌, arith, append_assoc, length-append, length-drop}
use Rattle.std.specs.List.{concat}
use Rattle.std.proofs.Math.Seq.{drop-append_seam}
use Rattle.filling.specs.Chains.{Chain}
use Rattle.filling.specs.Layouts.{lengths}
use Rattle.sets.specs.Lists.{Each}
use Rattle.sets.specs.Sets.{Sized}
use Rattle.forms.specs.Choices.{layout_of, by_width, SizeFits}
use Rattle.forms.specs.Cutting.{cuts}
use Rattle.forms.specs.Laying.{bytes_of, numbers_of, pieces}
use Rattle.forms.specs.Stepping.{Stepped}
use Rattle.forms.specs.declared.choice.Choice.{Choice}
use Rattle.forms.proofs.Cuts.{cuts_written}
use Rattle.forms.proofs.Laid.{laying_ok}
use Rattle.forms.proofs.Stepped.{opened_again, pieces_written, stepped}
use Rattle.chains.specs.Laid.{laid_bytes, laid_numbers}
use Rattle.chains.specs.Steps.{StepsIn}
use Rattle.chains.proofs.Opened.{by_front}

-- one step, where its parts stand at the fronts
stepped_in : (x : Choice) (s : List Bool) (bytes numbers new_bytes new_numbers more more_numbers : List ℕ) → SizeFits x → Sized s
    → length (bytes_of x s) ≤ length bytes → length (numbers_of x s) ≤ length numbers
    → new_bytes ≡ bytes_of x s ++ more → new_numbers ≡ numbers_of x s ++ more_numbers → Stepped x s s bytes numbers new_bytes new_numbers
stepped_in x s bytes numbers new_bytes new_numbers more more_numbers size sized fits fits_numbers wrote wrote_numbers =
    let well = laying_ok x s bytes numbers size fits fits_numbers in
    let step = stepped x s sized bytes numbers well s (sym (opened_again x s sized bytes numbers well).1) in
    let parts = (layout_of x).parts s in
    let stand : pieces x s new_bytes new_numbers ≡ parts =
    (λ i. pieces x s (wrote i) (wrote_numbers i)) ∙ ap (cuts (lengths (layout_of x) s)) (by_front x (concat parts) more more_numbers) ∙ cuts_written parts (by_width x more more_numbers) in
    (step.0, (step.1.0, step.1.1 ∙ pieces_written x s bytes numbers ∙ sym stand))

pub steps_in : (choices : List Choice) (s : List Bool) (bytes numbers new_bytes new_numbers more more_numbers : List ℕ) → Each SizeFits choices → Sized s
    → length (laid_bytes choices s) ≤ length bytes → length (laid_numbers choices s) ≤ length numbers
    → new_bytes ≡ laid_bytes choices s ++ more → new_numbers ≡ laid_numbers choices s ++ more_numbers → StepsIn choices s s bytes numbers new_bytes new_numbers
steps_in [] s bytes numbers new_bytes new_numbers more more_numbers sizes sized fits fits_numbers wrote wrote_numbers = refl
steps_in (x ∷ choices) s bytes numbers new_bytes new_numbers more more_numbers sizes sized fits fits_numbers wrote wrote_numbers =
    let part = bytes_of x s in
    let number_part = numbers_of x s in
    let rest = laid_bytes choices s ++ more in
    let number_rest = laid_numbers choices s ++ more_numbers in
    let behind : new_bytes ≡ part ++ rest = wrote ∙ append_assoc part (laid_bytes choices s) more in
    let numbers_behind : new_numbers ≡ number_part ++ number_rest = wrote_numbers ∙ append_assoc number_part (laid_numbers choices s) more_numbers in
    let long = length-append part (laid_bytes choices s) in
    let numbers_long = length-append number_part (laid_numbers choices s) in (
      s,
      stepped_in x s bytes numbers new_bytes new_numbers rest number_rest sizes.0 sized (omega arith) (omega arith) behind numbers_behind,
      steps_in choices s (drop (length part) bytes) (drop (length number_part) numbers) (drop (length part) new_bytes) (drop (length number_part) new_numbers) more more_numbers sizes.1 sized
          (omega (arith, length-drop (length part) bytes)) (omega (arith, length-drop (length number_part) numbers))
          (ap (drop (length part)) behind ∙ drop-append_seam part rest) (ap (drop (length number_part)) numbers_behind ∙ drop-append_seam number_part number_rest),
    )

-- such steps are a chain
pub chain_of : (choices : List Choice) (s t : List Bool) (bytes numbers new_bytes new_numbers : List ℕ) → StepsIn choices s t bytes numbers new_bytes new_numbers → Chain (map layout_of choices) s t
chain_of [] s t bytes numbers new_bytes new_numbers steps = steps
chain_of (x ∷ choices) s t bytes numbers new_bytes new_numbers steps = (steps.0, (steps.1.0, chain_of choices steps.0 t _ _ _ _ steps.2))
