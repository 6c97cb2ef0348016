-- Which answer of filling in a chosen form is due, and how much of the memories a set takes.
use Rattle.std.proofs.Common.{◌≡◌, ℕ, ◌≤◌, Bool, List, length, Ok, Err, refl, sym, ap, subst, ◌∙◌, arith}
use Rattle.std.specs.List.{sum}
use Rattle.faults.specs.Checks.{Verdict, Check, CheckIs, located, first_of}
use Rattle.faults.specs.declared.fault.Flaw.TheVariants.{BlockSize}
use Rattle.faults.proofs.Steps.{range_law, then, passed}
use Rattle.filling.specs.Layouts.{lengths}
use Rattle.filling.specs.Rooms.{filling}
use Rattle.zombit.specs.Opening.{size_check}
use Rattle.forms.specs.declared.choice.Choice.{Choice}
use Rattle.forms.specs.declared.choice.Choice.TheVariants.{Plain, List as Listed, Zombit, Pioneer}
use Rattle.forms.specs.Choices.{layout_of, by_width, SizeFits, Measures}
use Rattle.forms.specs.Cutting.{rooms_in, RoomsIn}
use Rattle.forms.specs.Laying.{bytes_of, numbers_of, pieces, laying, LayingIs}
use Rattle.forms.specs.Telling.{told_of, bytes_told, numbers_told}
use Rattle.forms.proofs.Rooms.{rooms_cut, rooms_law, rooms_fit, lengths_sum}

-- what measuring checks
abbrev size_checked : Choice → Check
size_checked Plain = Ok tt
size_checked Listed = Ok tt
size_checked (Zombit β) = size_check β
size_checked Pioneer = Ok tt

size_law : (x : Choice) → CheckIs 4 (SizeFits x) (size_checked x)
size_law Plain = tt
size_law Listed = tt
size_law (Zombit β) = range_law BlockSize 2 4096 β
size_law Pioneer = tt

measuring_is : (x : Choice) → (layout_of x).measuring ≡ located (layout_of x).form 0 (size_checked x)
measuring_is Plain = refl
measuring_is Listed = refl
measuring_is (Zombit β) = refl
measuring_is Pioneer = refl

pub measures : Measures
measures x size = measuring_is x ∙ ap (located (layout_of x).form 0) (passed 4 (SizeFits x) (size_checked x) (size_law x) size)

-- where all is well, measuring did not refuse, nor did filling
pub both_ok : (v w : Verdict) → first_of v w ≡ Ok tt → (v ≡ Ok tt) × (w ≡ Ok tt)
both_ok (Ok _) w h = (refl, h)
both_ok (Err e) w h = absurd (cc)

-- what is told is how much is written
pub told_bytes : (x : Choice) (s : List Bool) → bytes_told (told_of x s) ≡ length (bytes_of x s)
told_bytes Plain s = lengths_sum ((layout_of Plain).parts s)
told_bytes Listed s = refl
told_bytes (Zombit β) s = lengths_sum ((layout_of (Zombit β)).parts s)
told_bytes Pioneer s = lengths_sum ((layout_of Pioneer).parts s)

pub told_numbers : (x : Choice) (s : List Bool) → numbers_told (told_of x s) ≡ length (numbers_of x s)
told_numbers Plain s = refl
told_numbers Listed s = lengths_sum ((layout_of Listed).parts s)
told_numbers (Zombit β) s = refl
told_numbers Pioneer s = refl

-- all parts fit where their memory is long enough for what is written
parts_fit : (x : Choice) (s : List Bool) (bytes numbers : List ℕ) → length (bytes_of x s) ≤ length bytes → length (numbers_of x s) ≤ length numbers
    → sum (lengths (layout_of x) s) ≤ length (by_width x bytes numbers)
parts_fit Plain s bytes numbers b n = omega (arith, lengths_sum ((layout_of Plain).parts s))
parts_fit Listed s bytes numbers b n = omega (arith, lengths_sum ((layout_of Listed).parts s))
parts_fit (Zombit β) s bytes numbers b n = omega (arith, lengths_sum ((layout_of (Zombit β)).parts s))
parts_fit Pioneer s bytes numbers b n = omega (arith, lengths_sum ((layout_of Pioneer).parts s))

module _ (x : Choice) (s : List Bool) (bytes numbers : List ℕ) where
  abbrev memory : List ℕ
  memory = by_width x bytes numbers

  abbrev filled : Verdict
  filled = filling (layout_of x).form ((layout_of x).parts s) (pieces x s bytes numbers)

  abbrev RoomsAre : Verdict → Type 0
  RoomsAre = RoomsIn (layout_of x).form 1 0 (lengths (layout_of x) s) (length memory)

  filled_rooms : filled ≡ rooms_in (layout_of x).form 1 (lengths (layout_of x) s) (length memory)
  filled_rooms = rooms_cut (layout_of x).form 1 ((layout_of x).parts s) memory

  filled_law : RoomsAre filled
  filled_law = subst RoomsAre (sym filled_rooms) (rooms_law (layout_of x).form 1 0 (lengths (layout_of x) s) (length memory) (length memory) (omega arith))

  pub laying_law : LayingIs x s bytes numbers (laying x s bytes numbers)
  laying_law =
      subst (λ v. LayingIs x s bytes numbers (first_of v filled)) (sym (measuring_is x))
      (then (layout_of x).form 4 0 (SizeFits x) (size_checked x) RoomsAre filled (size_law x) (λ h. filled_law))

  -- with such blocks and memories that are long enough, nothing is refused
  pub laying_ok : SizeFits x → length (bytes_of x s) ≤ length bytes → length (numbers_of x s) ≤ length numbers → laying x s bytes numbers ≡ Ok tt
  laying_ok size b n =
      let fit = filled_rooms ∙ rooms_fit (layout_of x).form 1 (lengths (layout_of x) s) (length memory) (parts_fit x s bytes numbers b n) in
      λ i. first_of (measures x size i) (fit i)
