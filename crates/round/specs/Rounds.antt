-- A round in the words of its two sets: f is free, c is the class.
use Rattle.std.specs.Prelude.{◌≡◌, ℕ, Bool, List}
use Rattle.round.specs.declared.state.Round.{Round}
use Rattle.round.specs.declared.walk.Walked.{Walked}
use Rattle.round.specs.Handed.{SheetIs}
use Rattle.round.specs.Machine.{end, next_from}
use Rattle.round.specs.Sheets.{Page, sheet_from}
use Rattle.round.specs.Stretches.{Between}

abbrev pub free_of : {X Y : Type 0} {x : _} {y : _} → Round X Y x y → List Bool
free_of {x = x} r = x.meant r.free

abbrev pub class_of : {X Y : Type 0} {x : _} {y : _} → Round X Y x y → List Bool
class_of {y = y} r = y.meant r.class

abbrev pub last_bay : {X Y : Type 0} {x : _} {y : _} → Round X Y x y → ℕ
last_bay r = end (free_of r) (class_of r)

-- the walk of the next call
abbrev pub walk_of : {X Y : Type 0} {x : _} {y : _} → Round X Y x y → Walked
walk_of r = next_from (free_of r) (class_of r) r.state.place

-- the sheet of a call with room for k bays
abbrev pub page_of : {X Y : Type 0} {x : _} {y : _} → Round X Y x y → ℕ → Page
page_of r k = sheet_from (free_of r) (class_of r) k r.state.place

-- a call keeps the two sets
abbrev pub SameSets : {X Y : Type 0} {x : _} {y : _} → Round X Y x y → Round X Y x y → Type 0
SameSets old new = (new.free ≡ old.free) × (new.class ≡ old.class)

-- a sheet with room for k bays gave the first common bays, and left the round at its new place
abbrev pub Sheeted : {X Y : Type 0} {x : _} {y : _} → Round X Y x y → ℕ → List ℕ → Round X Y x y → Type 0
Sheeted old k bays new = SheetIs (free_of old) (class_of old) old.state.place k bays new.state.place

-- the bays that are passed where a round goes on to a place
abbrev pub Passed : {X Y : Type 0} {x : _} {y : _} → Round X Y x y → ℕ → ℕ → Type 0
Passed r place = Between r.state.place place
