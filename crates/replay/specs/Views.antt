-- A call of a round, and a list of exchanges, in the words of the plain machine.
use Rattle.std.specs.Prelude.{ℕ, List, take, drop, map, None}
use Rattle.round.specs.declared.state.Report.{Report}
use Rattle.round.specs.declared.state.Round.{Round}
use Rattle.round.specs.Rounds.{free_of, class_of}
use Rattle.replay.specs.declared.calls.Answer.{Answer}
use Rattle.replay.specs.declared.calls.Answer.TheVariants as answer
use Rattle.replay.specs.declared.calls.Call.{Call}
use Rattle.replay.specs.declared.calls.Exchange.{Exchange}
use Rattle.replay.specs.Plays.{Outcome, Seen, room, step}

-- one call of a round, with this window
abbrev pub step_of : {X Y : Type 0} {x : _} {y : _} → Round X Y x y → Call → List ℕ → Outcome
step_of r x window = step (free_of r) (class_of r) r.state x window

-- one call of a round, with the next numbers of a memory of which it has come to place `at`
abbrev pub turn_of : {X Y : Type 0} {x : _} {y : _} → Round X Y x y → Call → ℕ → List ℕ → Outcome
turn_of r x at memory = step_of r x (take (room x) (drop at memory))

-- an answer that means nothing
abbrev pub nothing : Answer
nothing = answer.Next (record { bay = None; stretches = 0 })

-- a call that is still to be asked
abbrev pub unasked : Call → Exchange
unasked x = record { call = x; first = nothing; second = nothing }

abbrev pub calls_of : List Exchange → List Call
calls_of exchanges = map (λ (x : Exchange). x.call) exchanges

-- what the first reader sees
abbrev pub first_seen : List Exchange → List ℕ → Report → Seen
first_seen exchanges memory report = record { answers = map (λ (x : Exchange). x.first) exchanges; memory = memory; report = report }

-- what the second reader sees
abbrev pub second_seen : List Exchange → List ℕ → Report → Seen
second_seen exchanges memory report = record { answers = map (λ (x : Exchange). x.second) exchanges; memory = memory; report = report }
