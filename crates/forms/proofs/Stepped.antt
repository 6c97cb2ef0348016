-- A fill is a step of a chain, and what it wrote is opened as the set that was filled.
use Rattle.std.proofs.Common.{◌≡◌, ℕ, Bool, List, Ok, Err, Result, IfOk, refl, sym, ap, ◌∙◌}
use Rattle.std.specs.List.{concat}
use Rattle.faults.specs.Checks.{Verdict}
use Rattle.faults.specs.declared.fault.Fault.{Fault}
use Rattle.filling.specs.Layouts.{lengths}
use Rattle.filling.specs.Rooms.{wrote, wrote_all, fronts}
use Rattle.filling.specs.Chains.{Step}
use Rattle.sets.specs.Lists.{over}
use Rattle.sets.specs.Sets.{Sized}
use Rattle.forms.specs.declared.choice.Choice.{Choice}
use Rattle.forms.specs.declared.choice.Choice.TheVariants.{Plain, List as Listed, Zombit, Pioneer}
use Rattle.forms.specs.declared.told.Told.{Told}
use Rattle.forms.specs.Choices.{layout_of, by_width}
use Rattle.forms.specs.Cutting.{cuts}
use Rattle.forms.specs.Laying.{bytes_of, numbers_of, pieces, laying}
use Rattle.forms.specs.Opening.{opening_told, decoding_told}
use Rattle.forms.specs.Stepping.{Stepped}
use Rattle.forms.specs.Telling.{TellsLayout, told_of}
use Rattle.forms.specs.Verdicts.{verdict_of}
use Rattle.forms.proofs.Cuts.{cuts_written, cuts_filled, fronts_all}
use Rattle.forms.proofs.Keeping.{keeps}
use Rattle.forms.proofs.Laid.{both_ok}

pub tells_layout : TellsLayout
tells_layout Plain s = (refl, refl, refl, refl, refl)
tells_layout Listed s = (refl, refl, refl, refl, refl)
tells_layout (Zombit β) s = (refl, refl, refl, refl, refl)
tells_layout Pioneer s = (refl, refl, refl, refl, refl)

-- the memory that the parts go to, once they are written
memory_written : (x : Choice) (s : List Bool) (bytes numbers : List ℕ)
    → by_width x (over (bytes_of x s) bytes) (over (numbers_of x s) numbers) ≡ over (concat ((layout_of x).parts s)) (by_width x bytes numbers)
memory_written Plain s bytes numbers = refl
memory_written Listed s bytes numbers = refl
memory_written (Zombit β) s bytes numbers = refl
memory_written Pioneer s bytes numbers = refl

-- what stands in the pieces then is the parts
pub pieces_written : (x : Choice) (s : List Bool) (bytes numbers : List ℕ)
    → pieces x s (over (bytes_of x s) bytes) (over (numbers_of x s) numbers) ≡ (layout_of x).parts s
pieces_written x s bytes numbers = ap (cuts (lengths (layout_of x) s)) (memory_written x s bytes numbers) ∙ cuts_written ((layout_of x).parts s) _

-- what is told leads to these pieces
opening_pieces : (x : Choice) (s : List Bool) (bytes numbers : List ℕ)
    → opening_told (told_of x s) bytes numbers ≡ (layout_of x).opening ((layout_of x).numbers s) (pieces x s bytes numbers)
opening_pieces Plain s bytes numbers = refl
opening_pieces Listed s bytes numbers = refl
opening_pieces (Zombit β) s bytes numbers = refl
opening_pieces Pioneer s bytes numbers = refl

decoding_pieces : (x : Choice) (s : List Bool) (bytes numbers : List ℕ)
    → decoding_told (told_of x s) bytes numbers ≡ (layout_of x).decoding ((layout_of x).numbers s) (pieces x s bytes numbers)
decoding_pieces Plain s bytes numbers = refl
decoding_pieces Listed s bytes numbers = refl
decoding_pieces (Zombit β) s bytes numbers = refl
decoding_pieces Pioneer s bytes numbers = refl

module _ (x : Choice) (s : List Bool) (sized : Sized s) (bytes numbers : List ℕ) (well : laying x s bytes numbers ≡ Ok tt) where
  abbrev new_bytes : List ℕ
  new_bytes = over (bytes_of x s) bytes

  abbrev new_numbers : List ℕ
  new_numbers = over (numbers_of x s) numbers

  kept : ((layout_of x).opening ((layout_of x).numbers s) ((layout_of x).parts s) ≡ Ok tt) × ((layout_of x).decoding ((layout_of x).numbers s) ((layout_of x).parts s) ≡ s)
  kept = keeps x (both_ok _ _ well).0 s sized

  -- what is opened where parts were just written is the set that was filled
  pub opened_again : (opening_told (told_of x s) new_bytes new_numbers ≡ Ok tt) × (decoding_told (told_of x s) new_bytes new_numbers ≡ s)
  opened_again =
      let e = pieces_written x s bytes numbers in (
        opening_pieces x s new_bytes new_numbers ∙ ap ((layout_of x).opening ((layout_of x).numbers s)) e ∙ kept.0,
        decoding_pieces x s new_bytes new_numbers ∙ ap ((layout_of x).decoding ((layout_of x).numbers s)) e ∙ kept.1,
      )

  pub stepped : (t : List Bool) → t ≡ decoding_told (told_of x s) new_bytes new_numbers → Stepped x s t bytes numbers new_bytes new_numbers
  stepped t meant =
      let parts = (layout_of x).parts s in
      let after = pieces x s new_bytes new_numbers in
      let filled = (both_ok _ _ well).1 in
      let e = pieces_written x s bytes numbers in
      let whole = ap (fronts (lengths (layout_of x) s)) e ∙ fronts_all parts in
      let all = ap (λ (v : Verdict). wrote_all v parts (pieces x s bytes numbers)) filled ∙ cuts_filled parts (by_width x bytes numbers) in
      let step : Step (layout_of x) s t = record {
        measured = (both_ok _ _ well).0;
        before = pieces x s bytes numbers;
        filled = filled;
        after = after;
        wrote = e ∙ sym all;
        opened = ap ((layout_of x).opening ((layout_of x).numbers s)) whole ∙ kept.0;
        meant = meant ∙ opened_again.1 ∙ sym kept.1 ∙ ap ((layout_of x).decoding ((layout_of x).numbers s)) (sym whole);
      } in
      (step, (refl, refl))

-- the same of an answer of filling, by what is said of it
pub steps : (x : Choice) (s : List Bool) (bytes numbers new_bytes new_numbers : List ℕ) (r : Result Told Fault) → Sized s
    → verdict_of r ≡ laying x s bytes numbers → IfOk r (λ told. told ≡ told_of x s)
    → new_bytes ≡ wrote (verdict_of r) (bytes_of x s) bytes → new_numbers ≡ wrote (verdict_of r) (numbers_of x s) numbers
    → IfOk r (λ told. (t : List Bool) → t ≡ decoding_told told new_bytes new_numbers → Stepped x s t bytes numbers new_bytes new_numbers)
steps x s bytes numbers new_bytes new_numbers (Ok told) sized answer is wrote_bytes wrote_numbers = rw (is, wrote_bytes, wrote_numbers) (stepped x s sized bytes numbers (sym answer))
steps x s bytes numbers new_bytes new_numbers (Err e) sized answer is wrote_bytes wrote_numbers = tt
