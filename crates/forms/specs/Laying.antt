-- What filling a set in a chosen form answers, and what it writes to the fronts of a memory of bytes and one of 16-bit numbers.
use Rattle.std.specs.Prelude.{◌≡◌, ℕ, ◌≤◌, Bool, List, [], length, Ok}
use Rattle.std.specs.List.{concat}
use Rattle.faults.specs.Checks.{Verdict, first_of, Needs}
use Rattle.filling.specs.Layouts.{lengths}
use Rattle.filling.specs.Rooms.{filling}
use Rattle.forms.specs.declared.choice.Choice.{Choice}
use Rattle.forms.specs.declared.told.Told.{Told}
use Rattle.forms.specs.Choices.{layout_of, by_width, SizeFits}
use Rattle.forms.specs.Cutting.{cuts, rooms_in, RoomsIn}
use Rattle.forms.specs.Telling.{choice_told, lengths_told}

-- the parts that are bytes, one behind the other, and those that are 16-bit numbers
abbrev pub bytes_of : Choice → List Bool → List ℕ
bytes_of x s = by_width x (concat ((layout_of x).parts s)) []

abbrev pub numbers_of : Choice → List Bool → List ℕ
numbers_of x s = by_width x [] (concat ((layout_of x).parts s))

-- the memories of the parts, cut from the front of the memory of their width
abbrev pub pieces : Choice → List Bool → List ℕ → List ℕ → List (List ℕ)
pieces x s bytes numbers = cuts (lengths (layout_of x) s) (by_width x bytes numbers)

-- what filling answers: measuring refuses first
abbrev pub laying : Choice → List Bool → List ℕ → List ℕ → Verdict
laying x s bytes numbers = first_of (layout_of x).measuring (filling (layout_of x).form ((layout_of x).parts s) (pieces x s bytes numbers))

-- when which answer is due: the form must have such blocks, and then each part must have room behind those before it
abbrev pub LayingIs : Choice → List Bool → List ℕ → List ℕ → Verdict → Type 0
LayingIs x s bytes numbers =
    Needs (layout_of x).form 4 0 (SizeFits x)
    (RoomsIn (layout_of x).form 1 0 (lengths (layout_of x) s) (length (by_width x bytes numbers)))

-- so with blocks that the form has, and memories as long as what is written to them, filling is not refused
abbrev pub Fits : Type 0
Fits =
    (x : Choice) (s : List Bool) (bytes numbers : List ℕ)
    → SizeFits x → length (bytes_of x s) ≤ length bytes → length (numbers_of x s) ≤ length numbers → laying x s bytes numbers ≡ Ok tt

-- the first part told for which so many bytes, or 16-bit numbers, have no room
abbrev pub rooms_told : Told → ℕ → ℕ → Verdict
rooms_told t bytes numbers = rooms_in (layout_of (choice_told t)).form 1 (lengths_told t) (by_width (choice_told t) bytes numbers)

abbrev pub RoomsTold : Told → ℕ → ℕ → Verdict → Type 0
RoomsTold t bytes numbers = RoomsIn (layout_of (choice_told t)).form 1 0 (lengths_told t) (by_width (choice_told t) bytes numbers)
