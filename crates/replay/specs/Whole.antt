-- What is true of a whole list of calls on a fresh round.
use Rattle.std.specs.Prelude.{◌≡◌, ℕ, suc, ◌≤◌, Bool, true, List, [], ◌∷◌, ◌++◌, length, take, map, sum_by, Ok, Err, Result}
use Rattle.std.specs.List.{flat_map}
use Rattle.faults.specs.declared.fault.Refusal.{Refusal}
use Rattle.sets.specs.Lists.{ListOf}
use Rattle.round.specs.Machine.{end, common}
use Rattle.round.specs.States.{fresh, bay_of}
use Rattle.round.specs.Stretches.{Row, Clear, Fewest}
use Rattle.replay.specs.declared.calls.Answer.{Answer}
use Rattle.replay.specs.declared.calls.Answer.TheVariants as answer
use Rattle.replay.specs.declared.calls.Call.{Call}
use Rattle.replay.specs.declared.calls.Call.TheVariants as call
use Rattle.replay.specs.Plays.{Turn, Seen, play, windows, answers_of}

-- the bays that a call handed out: in its answer, or at the front of its window
abbrev pub gives : Answer → List ℕ → List ℕ
gives (answer.Next t) window = bay_of t.bay
gives (answer.Sheet w) window = take w.bays window
gives _ window = []

abbrev pub bays_of : List Turn → List ℕ
bays_of turns = flat_map (λ (t : Turn). gives t.answer t.window) turns

-- the row that a go from p to q steps over, where it is accepted
abbrev pub hop : Result (Unit {0}) Refusal → ℕ → ℕ → List Row
hop (Ok _) p q = record { first = p; past = q } ∷ []
hop (Err _) p q = []

-- the row that a call from p steps over
abbrev pub skips : Call → Answer → ℕ → List Row
skips (call.Go q) (answer.Go r) p = hop r p q
skips _ _ p = []

abbrev pub stepped_over : List Turn → List Row
stepped_over turns = flat_map (λ (t : Turn). skips t.call t.answer t.place) turns

-- the stretches that an answer tells
abbrev pub tells : Answer → ℕ
tells (answer.Next t) = t.stretches
tells (answer.Sheet w) = w.stretches
tells _ = 0

abbrev pub stretches_told : List Answer → ℕ
stretches_told answers = sum_by tells answers

-- bay j is from 1 on, below the place, and in none of the rows stepped over
abbrev pub Passed : List Row → ℕ → ℕ → Type 0
Passed over place = Clear 1 place over

-- the bays are the common bays that were passed, each once and rising
abbrev pub HandedOut : List Bool → List Bool → List Row → ℕ → List ℕ → Type 0
HandedOut f c over place bays = ListOf (λ j. Passed over place j × (common f c j ≡ true)) bays

-- a list of calls on a fresh round
module _ (f c : List Bool) (calls : List Call) (memory : List ℕ) where
  abbrev turns : List Turn
  turns = (play f c fresh calls memory).turns

  -- what is seen of it
  pub record Kept (seen : Seen) : Type 0 where
    -- the turns are of the calls, their answers are those seen, and their windows stand at the front of the memory
    pub asked : map (λ (t : Turn). t.call) turns ≡ calls
    pub answered : answers_of turns ≡ seen.answers
    pub wrote : (rest : List ℕ) × (windows turns ++ rest ≡ seen.memory)
    pub place : (1 ≤ seen.report.place) × (seen.report.place ≤ suc (end f c))
    -- the bays handed out are the common bays that were passed, and as many as reported
    pub bays : HandedOut f c (stepped_over turns) seen.report.place (bays_of turns)
    pub handed : seen.report.handed ≡ length (bays_of turns)
    -- the stretches reported are those told, and the fewest that cut the bays passed
    pub stretches : seen.report.stretches ≡ stretches_told seen.answers
    pub fewest : Fewest f c (Passed (stepped_over turns) seen.report.place) seen.report.stretches
