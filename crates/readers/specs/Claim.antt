-- The claim of two readers. The first reads the sets f and c, and the second reads f' and c'; each has a memory of its own, and is asked
-- the same calls on a fresh round.
use Rattle.std.specs.Prelude.{◌≡◌, ℕ, Bool, List}
use Rattle.sets.specs.Lists.{Each}
use Rattle.filling.specs.Chains.{Chain}
use Rattle.filling.specs.Layouts.{Layout, Keeps}
use Rattle.replay.specs.declared.calls.Call.{Call}
use Rattle.replay.specs.Plays.{Seen, run}
use Rattle.replay.specs.Whole.{Kept}

pub record TwoReaders (f c f' c' : List Bool) (calls : List Call) (memory memory' : List ℕ) (calls' : List Call) (seen seen' : Seen) : Type 0 where
  -- the calls are as they were
  pub asked : calls' ≡ calls
  -- each reader sees exactly what the plain machine over its sets gives
  pub plain : seen ≡ run f c calls memory
  pub late_plain : seen' ≡ run f' c' calls memory'
  -- and is handed the common bays that were passed, by the fewest stretches
  pub kept : Kept f c calls memory seen
  pub late_kept : Kept f' c' calls memory' seen'
  -- where the sets of the second are those of the first, filled and opened again any number of times, in any forms that keep their sets,
  -- both see the same
  pub same :
      (xs ys : List Layout) → Each Keeps xs → Each Keeps ys → Chain xs f f' → Chain ys c c' → memory' ≡ memory → seen' ≡ seen
