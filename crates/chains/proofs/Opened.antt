-- An index that lies in two memories is opened there, and stands for its set.
use Rattle.std.proofs.Common.{◌≡◌, ℕ, ◌-◌, Bool, List, [], ◌++◌, length, take, drop, Ok, Err, Result, refl, sym, ap, subst, ◌∙◌, take-append-drop, length-drop}
use Rattle.std.specs.List.{concat}
use Rattle.std.specs.Result.{IsOk, IfOk}
use Rattle.std.proofs.Math.Seq.{take-length}
use Rattle.faults.specs.declared.fault.Fault.{Fault}
use Rattle.filling.specs.Layouts.{lengths}
use Rattle.sets.specs.Sets.{Sized}
use Rattle.forms.specs.Choices.{layout_of, by_width, SizeFits}
use Rattle.forms.specs.Cutting.{cuts}
use Rattle.forms.specs.Laying.{bytes_of, numbers_of}
use Rattle.forms.specs.Meant.{meant_of}
use Rattle.forms.specs.Opening.{fronts_told, opening_told, decoding_told}
use Rattle.forms.specs.Telling.{told_of}
use Rattle.forms.specs.Verdicts.{verdict_of}
use Rattle.forms.specs.declared.choice.Choice.{Choice}
use Rattle.forms.specs.declared.choice.Choice.TheVariants as choices
use Rattle.forms.specs.declared.index.Index.{Index}
use Rattle.forms.proofs.Cuts.{cuts_written}
use Rattle.forms.proofs.Keeping.{keeps}
use Rattle.forms.proofs.Stepped.{tells_layout}
use Rattle.chains.specs.Laid.{Has, IndexIn}
use Rattle.chains.specs.declared.place.Last.{Last}
use Rattle.chains.proofs.Sizes.{measured}

-- the memory of the form's width has the parts at its front
pub by_front : (x : Choice) (all a b : List ℕ) → by_width x (by_width x all [] ++ a) (by_width x [] all ++ b) ≡ all ++ by_width x a b
by_front choices.Plain all a b = refl
by_front choices.List all a b = refl
by_front (choices.Zombit β) all a b = refl
by_front choices.Pioneer all a b = refl

module _ (x : Choice) (s : List Bool) (bytes numbers a b : List ℕ) (of_bytes : bytes ≡ bytes_of x s ++ a) (of_numbers : numbers ≡ numbers_of x s ++ b) where
  fronts_back : fronts_told (told_of x s) bytes numbers ≡ (layout_of x).parts s
  fronts_back =
      let told = tells_layout x s in
      (λ i. cuts (told.2 i) (by_width (told.0 i) (of_bytes i) (of_numbers i)))
      ∙ ap (cuts (lengths (layout_of x) s)) (by_front x (concat ((layout_of x).parts s)) a b)
      ∙ cuts_written ((layout_of x).parts s) (by_width x a b)

  opened_again : SizeFits x → Sized s → (opening_told (told_of x s) bytes numbers ≡ Ok tt) × (decoding_told (told_of x s) bytes numbers ≡ s)
  opened_again size sized =
      let told = tells_layout x s in
      let kept = keeps x (measured x size) s sized in
      ((λ i. (layout_of (told.0 i)).opening (told.1 i) (fronts_back i)) ∙ kept.0, (λ i. (layout_of (told.0 i)).decoding (told.1 i) (fronts_back i)) ∙ kept.1)

-- what a memory has at a place stands at the front of the memory from there on
from_place : (memory : List ℕ) (at : ℕ) (part : List ℕ) → Has memory at part → drop at memory ≡ part ++ drop (length part) (drop at memory)
from_place memory at part has =
    let behind = drop (length part) (drop at memory) in
    sym (take-append-drop (length part) (drop at memory)) ∙ ap (λ (front : List ℕ). front ++ behind) has.1

module _ (l : Last) (s : List Bool) (bytes numbers : List ℕ) (lies : IndexIn l s bytes numbers) where
  abbrev from_bytes : List ℕ
  from_bytes = drop l.bytes_at bytes

  abbrev from_numbers : List ℕ
  from_numbers = drop l.numbers_at numbers

  pub opened_at : Sized s → (opening_told l.told from_bytes from_numbers ≡ Ok tt) × (decoding_told l.told from_bytes from_numbers ≡ s)
  opened_at sized =
      let x = lies.0 in
      let again =
      opened_again x s from_bytes from_numbers _ _ (from_place bytes l.bytes_at (bytes_of x s) lies.3) (from_place numbers l.numbers_at (numbers_of x s) lies.4) lies.1 sized in
      (ap (λ t. opening_told t from_bytes from_numbers) lies.2 ∙ again.0, ap (λ t. decoding_told t from_bytes from_numbers) lies.2 ∙ again.1)

-- a memory from a place on, as the code cuts it off
pub rest_of : (memory : List ℕ) (at : ℕ) → take (length memory - at) (drop at memory) ≡ drop at memory
rest_of memory at = ap (λ n. take n (drop at memory)) (sym (length-drop at memory)) ∙ take-length (drop at memory)

-- an answer that refuses nothing is no refusal
pub is_ok : {A : Type 0} (r : Result A Fault) → verdict_of r ≡ Ok tt → IsOk r
is_ok (Ok a) h = refl
is_ok (Err e) h = cc

pub meant_by : (r : Result Index Fault) (index : Index) (t : List Bool) → r ≡ Ok index → IfOk r (λ opened. meant_of opened ≡ t) → meant_of index ≡ t
meant_by r index t is means = subst (λ answer. IfOk answer (λ opened. meant_of opened ≡ t)) is means
