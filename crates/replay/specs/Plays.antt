-- The plain machine: two sets, f is free and c is the class, the state of a round, and a list of calls.
use Rattle.std.specs.Prelude.{ℕ, Bool, List, [], ◌∷◌, ◌++◌, length, take, drop, map}
use Rattle.std.specs.List.{flat_map}
use Rattle.sets.specs.Lists.{over}
use Rattle.round.specs.declared.state.Report.{Report}
use Rattle.round.specs.Calls.{count_in, go_to, nearest_at, pick_from, sign_at}
use Rattle.round.specs.Machine.{end, next_from}
use Rattle.round.specs.Sheets.{sheet_from, written_of}
use Rattle.round.specs.States.{fresh, after_go, after_next, after_sheet}
use Rattle.replay.specs.declared.calls.Answer.{Answer}
use Rattle.replay.specs.declared.calls.Answer.TheVariants as answer
use Rattle.replay.specs.declared.calls.Call.{Call}
use Rattle.replay.specs.declared.calls.Call.TheVariants as call

-- what one call does: its answer, its window and the state afterwards
pub record Outcome : Type 0 where
  pub answer : Answer
  pub window : List ℕ
  pub state : Report

-- a call that only asks
abbrev pub asked : Answer → Report → List ℕ → Outcome
asked a s window = record { answer = a; window = window; state = s }

-- one call, with this window for a sheet
abbrev pub step : List Bool → List Bool → Report → Call → List ℕ → Outcome
step f c s (call.Count a b) window = asked (answer.Count (count_in f (end f c) a b)) s window
step f c s (call.Nearest p) window = asked (answer.Nearest (nearest_at f (end f c) p)) s window
step f c s (call.Sign n) window = asked (answer.Sign (sign_at f (end f c) n)) s window
step f c s (call.Pick k) window = asked (answer.Pick (pick_from f (end f c) k)) s window
step f c s (call.Go q) window =
    let r = go_to (end f c) s.place q in
    record { answer = answer.Go r; window = window; state = after_go r s q }
step f c s call.Next window =
    record { answer = answer.Next (next_from f c s.place).taken; window = window; state = after_next f c s }
step f c s (call.Sheet _) window =
    let page = sheet_from f c (length window) s.place in
    record { answer = answer.Sheet (written_of page); window = over page.bays window; state = after_sheet s page }

-- how many of the next numbers of the memory a call takes, where there are so many
abbrev pub room : Call → ℕ
room (call.Sheet k) = k
room _ = 0

-- one call of a list: the place before it, the call, its answer, and its window after it
pub record Turn : Type 0 where
  pub place : ℕ
  pub call : Call
  pub answer : Answer
  pub window : List ℕ

-- a list of calls: its turns, the memory that no call took, and the state at the end
pub record Played : Type 0 where
  pub turns : List Turn
  pub rest : List ℕ
  pub report : Report

abbrev pub before : Turn → Played → Played
before t r = record { turns = t ∷ r.turns; rest = r.rest; report = r.report }

-- a list of calls, from the state s on
unfoldable pub play : List Bool → List Bool → Report → List Call → List ℕ → Played
play f c s [] memory = record { turns = []; rest = memory; report = s }
play f c s (x ∷ calls) memory =
    let t = step f c s x (take (room x) memory) in
    before (record { place = s.place; call = x; answer = t.answer; window = t.window }) (play f c t.state calls (drop (room x) memory))

-- what can be seen of a list of calls: the answers, the memory afterwards, and the closing report
pub record Seen : Type 0 where
  pub answers : List Answer
  pub memory : List ℕ
  pub report : Report

-- the windows one behind the other
abbrev pub windows : List Turn → List ℕ
windows turns = flat_map (λ (t : Turn). t.window) turns

abbrev pub answers_of : List Turn → List Answer
answers_of turns = map (λ (t : Turn). t.answer) turns

abbrev pub seen_of : Played → Seen
seen_of r = record { answers = answers_of r.turns; memory = windows r.turns ++ r.rest; report = r.report }

-- what is seen of a fresh round
abbrev pub run : List Bool → List Bool → List Call → List ℕ → Seen
run f c calls memory = seen_of (play f c fresh calls memory)
