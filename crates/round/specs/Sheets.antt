-- A sheet: bays are taken as by next until its room is full or none is left.
use Rattle.std.specs.Prelude.{ℕ, zero, suc, ◌+◌, Bool, List, [], ◌∷◌, length, Some, None, Option}
use Rattle.round.specs.declared.state.Written.{Written}
use Rattle.round.specs.declared.walk.Walked.{Walked}
use Rattle.round.specs.Machine.{next_from}

-- the bays of a sheet, the place after it and the stretches that it took
pub record Page : Type 0 where
  pub bays : List ℕ
  pub place : ℕ
  pub stretches : ℕ

-- one next, and what follows it if it gave a bay
abbrev pub paged : Option ℕ → Walked → Page → Page
paged None w r = record { bays = []; place = w.place; stretches = w.taken.stretches }
paged (Some b) w r = record { bays = b ∷ r.bays; place = r.place; stretches = w.taken.stretches + r.stretches }

-- a sheet with room for k bays, from place p on
unfoldable pub sheet_from : List Bool → List Bool → ℕ → ℕ → Page
sheet_from f c zero p = record { bays = []; place = p; stretches = 0 }
sheet_from f c (suc k) p = let w = next_from f c p in paged w.taken.bay w (sheet_from f c k w.place)

-- what a sheet tells of itself
abbrev pub written_of : Page → Written
written_of r = record { bays = length r.bays; stretches = r.stretches }
