-- Parts laid one behind the other in one memory.
use Rattle.std.specs.Prelude.{ℕ, suc, ◌+◌, ◌-◌, ◌≤◌, List, [], ◌∷◌, take, drop, Ok}
use Rattle.faults.specs.Checks.{Verdict, located, first_of, Needs, Accepted}
use Rattle.faults.specs.declared.fault.Form.{Form}
use Rattle.filling.specs.Rooms.{room_check}

-- a memory cut into pieces of these lengths, one behind the other
abbrev pub cuts : List ℕ → List ℕ → List (List ℕ)
cuts [] memory = []
cuts (n ∷ lengths) memory = take n memory ∷ cuts lengths (drop n memory)

-- from part k on: the first part for which what is left of m numbers has no room
abbrev pub rooms_in : Form → ℕ → List ℕ → ℕ → Verdict
rooms_in form k [] m = Ok tt
rooms_in form k (n ∷ lengths) m = first_of (located form k (room_check n m)) (rooms_in form (suc k) lengths (m - n))

-- when which answer is due: each part, with those before it, which took so many numbers, must have room in the m numbers
abbrev pub RoomsIn : Form → ℕ → ℕ → List ℕ → ℕ → Verdict → Type 0
RoomsIn form k took [] m = Accepted
RoomsIn form k took (n ∷ lengths) m = Needs form 5 k (took + n ≤ m) (RoomsIn form (suc k) (took + n) lengths m)
