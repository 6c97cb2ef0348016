-- A set that is filled into memories exactly as long as its parts: they hold the parts and no more, and open as the set.
use Rattle.std.proofs.Common.{◌≡◌, ℕ, ◌-◌, ◌^◌, min, Bool, List, ◌++◌, length, take, drop, Ok, sym, ap, ◌∙◌, arith}
use Rattle.std.specs.Vec.{vec_len}
use Rattle.std.specs.declared.vec.Vec.{Vec}
use Rattle.std.proofs.lemmas.List.{drop_all, take_all, append-nil}
use Rattle.faults.specs.Checks.{Verdict}
use Rattle.filling.specs.Rooms.{wrote}
use Rattle.sets.specs.Lists.{over}
use Rattle.sets.specs.Sets.{Sized}
use Rattle.forms.specs.declared.choice.Choice.{Choice}
use Rattle.forms.specs.declared.told.Told.{Told}
use Rattle.forms.specs.Choices.{layout_of, by_width, SizeFits}
use Rattle.forms.specs.Cutting.{cuts}
use Rattle.forms.specs.Laying.{bytes_of, numbers_of, laying}
use Rattle.forms.specs.Opening.{fronts_told, opening_told, decoding_told}
use Rattle.forms.specs.Telling.{told_of, choice_told, opening_numbers, lengths_told, bytes_told, numbers_told}
use Rattle.forms.proofs.Laid.{laying_ok, told_bytes, told_numbers}
use Rattle.forms.proofs.Stepped.{opened_again, pieces_written, tells_layout}

-- a part that fills its memory is all of it
over_whole : (part memory : List ℕ) → length memory ≡ length part → over part memory ≡ part
over_whole part memory long = ap (λ (rest : List ℕ). part ++ rest) (drop_all (length part) memory (omega arith)) ∙ append-nil part

-- a memory of bytes that was asked for by what was told is as long as that: none reaches the length at which telling stops
pub asked : {A : Type 0} (v : Vec ℕ A) (lent : List ℕ) (told : ℕ) → length lent ≡ vec_len v → vec_len v ≡ min told (2 ^ 64 - 1) → length lent ≡ told
asked v lent told long is = omega (arith, long, is, v.small)

-- what a `Vec` has after all that was lent of it was written anew
pub handed_back : {A : Type 0} (v : Vec ℕ A) (lent new : List ℕ) → lent ≡ v.items → length new ≡ length lent → take v.len (new ++ drop (length new) v.items) ≡ new
handed_back v lent new is same =
    let long = same ∙ ap length is in
    ap (λ (front : List ℕ). take v.len front) (over_whole new v.items (sym long)) ∙ take_all v.len new (omega (arith, v.ok.0, long))

-- what is left in the memories
pub record Whole (x : Choice) (s : List Bool) (told : Told) (bytes numbers : List ℕ) : Type 0 where
  pub choice : choice_told told ≡ x
  pub takes : opening_numbers told ≡ (layout_of x).numbers s
  pub parts : fronts_told told bytes numbers ≡ (layout_of x).parts s
  pub opens : opening_told told bytes numbers ≡ Ok tt
  pub means : decoding_told told bytes numbers ≡ s
  pub bytes_are : bytes ≡ bytes_of x s
  pub numbers_are : numbers ≡ numbers_of x s

module _ (x : Choice) (s : List Bool) (size : SizeFits x) (told : Told) (is : told ≡ told_of x s) (bytes numbers : List ℕ) (long : length bytes ≡ bytes_told told) (numbers_long : length numbers ≡ numbers_told told) where
  bytes_fit : length bytes ≡ length (bytes_of x s)
  bytes_fit = long ∙ ap bytes_told is ∙ told_bytes x s

  numbers_fit : length numbers ≡ length (numbers_of x s)
  numbers_fit = numbers_long ∙ ap numbers_told is ∙ told_numbers x s

  -- nothing refuses
  pub all_fit : laying x s bytes numbers ≡ Ok tt
  all_fit = laying_ok x s bytes numbers size (omega (arith, bytes_fit)) (omega (arith, numbers_fit))

  pub whole : Sized s → (v : Verdict) → v ≡ laying x s bytes numbers → (new_bytes new_numbers : List ℕ) → new_bytes ≡ wrote v (bytes_of x s) bytes → new_numbers ≡ wrote v (numbers_of x s) numbers
      → Whole x s told new_bytes new_numbers
  whole sized v answer new_bytes new_numbers wrote_bytes wrote_numbers =
      let ok = answer ∙ all_fit in
      let over_bytes = wrote_bytes ∙ ap (λ (w : Verdict). wrote w (bytes_of x s) bytes) ok in
      let over_numbers = wrote_numbers ∙ ap (λ (w : Verdict). wrote w (numbers_of x s) numbers) ok in
      let tells = tells_layout x s in
      let choice = ap choice_told is ∙ tells.0 in
      let lengths = ap lengths_told is ∙ tells.2 in
      let again = opened_again x s sized bytes numbers all_fit in
      record {
        choice = choice;
        takes = ap opening_numbers is ∙ tells.1;
        parts = (λ i. cuts (lengths i) (by_width (choice i) (over_bytes i) (over_numbers i))) ∙ pieces_written x s bytes numbers;
        opens = (λ i. opening_told (is i) (over_bytes i) (over_numbers i)) ∙ again.0;
        means = (λ i. decoding_told (is i) (over_bytes i) (over_numbers i)) ∙ again.1;
        bytes_are = over_bytes ∙ over_whole (bytes_of x s) bytes bytes_fit;
        numbers_are = over_numbers ∙ over_whole (numbers_of x s) numbers numbers_fit;
      }
