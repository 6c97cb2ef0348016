-- A call of next, and a sheet, in the words of the sets of a round that stood before.
use Rattle.std.proofs.Common.{◌≡◌, ℕ, ◌∙◌}
use Rattle.round.specs.declared.state.Round.{Round}
use Rattle.round.specs.declared.state.Taken.{Taken}
use Rattle.round.specs.Machine.{next_from}
use Rattle.round.specs.Rounds.{free_of, class_of, walk_of, page_of, SameSets}
use Rattle.round.specs.Sheets.{sheet_from}
use Rattle.round.specs.States.{after_next}

-- `here` has the sets of r, and a next gave t and left it as `on`
pub record Nexted {X Y : Type 0} {x : _} {y : _} (r here on : Round X Y x y) (t : Taken) : Type 0 where
  pub step : t ≡ (next_from (free_of r) (class_of r) here.state.place).taken
  pub state : on.state ≡ after_next (free_of r) (class_of r) here.state
  pub sets : SameSets r on

pub next_on : {X Y : Type 0} {x : _} {y : _} (r here on : Round X Y x y) (t : Taken) → SameSets r here → t ≡ (walk_of here).taken → on.state ≡ after_next (free_of here) (class_of here) here.state → SameSets here on → Nexted r here on t
next_on {x = x} {y = y} r here on t same step state sets = record {
  step = step ∙ (λ i. (next_from (x.meant (same.0 i)) (y.meant (same.1 i)) here.state.place).taken);
  state = state ∙ (λ i. after_next (x.meant (same.0 i)) (y.meant (same.1 i)) here.state);
  sets = (sets.0 ∙ same.0, sets.1 ∙ same.1);
}

-- a sheet of a round that has the sets of r
pub page_on : {X Y : Type 0} {x : _} {y : _} (r here : Round X Y x y) (k : ℕ) → SameSets r here → page_of here k ≡ sheet_from (free_of r) (class_of r) k here.state.place
page_on {x = x} {y = y} r here k same = λ i. sheet_from (x.meant (same.0 i)) (y.meant (same.1 i)) k here.state.place
