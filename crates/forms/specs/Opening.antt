-- What opening from the fronts of two memories answers, and the set that stands there.
use Rattle.std.specs.Prelude.{ℕ, Bool, List, take, drop}
use Rattle.faults.specs.Checks.{Verdict}
use Rattle.forms.specs.declared.told.Told.{Told}
use Rattle.forms.specs.declared.told.Told.TheVariants.{Plain, List as Listed, Zombit, Pioneer}
use Rattle.forms.specs.Choices.{layout_of, by_width}
use Rattle.forms.specs.Cutting.{cuts}
use Rattle.forms.specs.Telling.{choice_told, opening_numbers, lengths_told}
use Rattle.plain.specs.Opening as plain
use Rattle.list.specs.Opening as list
use Rattle.zombit.specs.Opening as zombit
use Rattle.pioneer.specs.Opening as pioneer

-- the parts, at the lengths told
abbrev pub fronts_told : Told → List ℕ → List ℕ → List (List ℕ)
fronts_told t bytes numbers = cuts (lengths_told t) (by_width (choice_told t) bytes numbers)

abbrev pub opening_told : Told → List ℕ → List ℕ → Verdict
opening_told t bytes numbers = (layout_of (choice_told t)).opening (opening_numbers t) (fronts_told t bytes numbers)

-- when which answer is due, in the words of the form
abbrev pub OpeningIs : Told → List ℕ → List ℕ → Verdict → Type 0
OpeningIs (Plain t) bytes numbers = plain.OpeningIs t.last (take t.bits bytes)
OpeningIs (Listed t) bytes numbers = list.OpeningIs t.last (take t.numbers numbers)
OpeningIs (Zombit t) bytes numbers =
    zombit.OpeningIs t.last t.size
    (take t.uniform bytes) (take t.marked (drop t.uniform bytes)) (take t.mixed (drop t.marked (drop t.uniform bytes)))
OpeningIs (Pioneer t) bytes numbers = pioneer.OpeningIs t.last t.count (take t.starts bytes) (take t.sums (drop t.starts bytes))

abbrev pub decoding_told : Told → List ℕ → List ℕ → List Bool
decoding_told t bytes numbers = (layout_of (choice_told t)).decoding (opening_numbers t) (fronts_told t bytes numbers)
