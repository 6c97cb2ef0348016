-- A reader's round, whose two sets stay as they were.
use Rattle.std.proofs.Common.{◌≡◌, ℕ, ◌≤◌, List, length, map, ◌∙◌}
use Rattle.round.specs.declared.state.Report.{Report}
use Rattle.round.specs.declared.state.Round.{Round}
use Rattle.round.specs.Rounds.{free_of, class_of, SameSets}
use Rattle.round.specs.States.{fresh}
use Rattle.replay.specs.declared.calls.Answer.{Answer}
use Rattle.replay.specs.declared.calls.Call.{Call}
use Rattle.replay.specs.declared.calls.Exchange.{Exchange}
use Rattle.replay.specs.Plays.{Seen, step, play, seen_of, run}
use Rattle.replay.specs.Views.{step_of, calls_of}
use Rattle.replay.proofs.Playing.{Going, going_all}

module _ {X Y : Type 0} {x : _} {y : _} (r here : Round X Y x y) where
  pub steps_as : (call : Call) (window : List ℕ) → SameSets r here → step_of here call window ≡ step (free_of r) (class_of r) here.state call window
  steps_as call window same = λ i. step (x.meant (same.0 i)) (y.meant (same.1 i)) here.state call window

  -- all calls are played on a round that was fresh
  pub all_seen : {free : X} {class : Y} {answer : Exchange → Answer} {exchanges₀ exchanges : List Exchange} {memory₀ memory : List ℕ} {i at : ℕ} {report : Report} → (r.free ≡ free) × (r.class ≡ class) → r.state ≡ fresh → length exchanges ≤ i → Going (free_of r) (class_of r) answer r.state exchanges₀ memory₀ i at here.state memory exchanges → report ≡ here.state → ◌≡◌ {A = Seen} (record { answers = map answer exchanges; memory = memory; report = report }) (run (x.meant free) (y.meant class) (calls_of exchanges₀) memory₀)
  all_seen {answer = answer} {exchanges₀ = exchanges₀} {exchanges = exchanges} {memory₀ = memory₀} {memory = memory} sets state h g is =
      (λ j. record { answers = map answer exchanges; memory = memory; report = is j }) ∙ going_all g h
      ∙ (λ j. seen_of (play (x.meant (sets.0 j)) (y.meant (sets.1 j)) (state j) (calls_of exchanges₀) memory₀))
