-- What filling answers and what it leaves. The parts of an index are rows of numbers, and each is written to the front of a memory of its own.
use Rattle.std.specs.Prelude.{ℕ, suc, ◌<◌, ◌≤◌, cond, List, [], ◌∷◌, length, take, Ok, Err, nat_le}
use Rattle.faults.specs.Checks.{Check, Verdict, located, first_of, Needs, Accepted}
use Rattle.faults.specs.declared.fault.Flaw.TheVariants.{Room}
use Rattle.faults.specs.declared.fault.Form.{Form}
use Rattle.sets.specs.Lists.{over}

-- a memory of m numbers has room for n
abbrev pub room_check : ℕ → ℕ → Check
room_check n m = cond (nat_le n m) (Ok tt) (Err Room)

-- from part k on: the first part for which its memory has no room
abbrev pub rooms_from : Form → ℕ → List (List ℕ) → List (List ℕ) → Verdict
rooms_from form k [] memories = Ok tt
rooms_from form k (p ∷ parts) [] = located form k (Err Room)
rooms_from form k (p ∷ parts) (m ∷ memories) = first_of (located form k (room_check (length p) (length m))) (rooms_from form (suc k) parts memories)

-- what filling these parts into these memories answers: the parts are numbered from 1
abbrev pub filling : Form → List (List ℕ) → List (List ℕ) → Verdict
filling form parts memories = rooms_from form 1 parts memories

-- when which answer is due: each memory must have room for its part
abbrev pub RoomsFrom : Form → ℕ → List (List ℕ) → List (List ℕ) → Verdict → Type 0
RoomsFrom form k (p ∷ parts) (m ∷ memories) = Needs form 5 k (length p ≤ length m) (RoomsFrom form (suc k) parts memories)
RoomsFrom form k [] memories = Accepted
RoomsFrom form k (p ∷ parts) [] = Needs form 5 k ⊥ Accepted

abbrev pub FillingIs : Form → List (List ℕ) → List (List ℕ) → Verdict → Type 0
FillingIs form parts memories = RoomsFrom form 1 parts memories

-- a memory afterwards: the part at its front where all had room, and else what it had
abbrev pub wrote : Verdict → List ℕ → List ℕ → List ℕ
wrote (Ok _) part memory = over part memory
wrote (Err _) part memory = memory

-- all memories afterwards
abbrev pub wrote_all : Verdict → List (List ℕ) → List (List ℕ) → List (List ℕ)
wrote_all v [] memories = memories
wrote_all v (p ∷ parts) [] = []
wrote_all v (p ∷ parts) (m ∷ memories) = wrote v p m ∷ wrote_all v parts memories

-- the fronts of the memories, at these lengths
abbrev pub fronts : List ℕ → List (List ℕ) → List (List ℕ)
fronts [] memories = []
fronts (n ∷ lengths) [] = []
fronts (n ∷ lengths) (m ∷ memories) = take n m ∷ fronts lengths memories
