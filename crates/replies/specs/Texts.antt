-- How a reply reads.
use Rattle.std.specs.Prelude.{ℕ, List, ◌++◌, codes, decimal, Ok, Err, Some, None, Option, true, false}
use Rattle.faults.specs.Numbers.{refusal_number}
use Rattle.faults.specs.Texts.{fault_text}
use Rattle.faults.specs.declared.fault.Refusal.{Refusal}
use Rattle.opening.specs.declared.fault.Side.{Side}
use Rattle.opening.specs.declared.fault.Side.TheVariants.{F, C}
use Rattle.replay.specs.declared.calls.Answer.{Answer}
use Rattle.replay.specs.declared.calls.Answer.TheVariants as answer
use Rattle.replies.specs.declared.reply.Reply.{Reply}
use Rattle.replies.specs.declared.reply.Reply.TheVariants.{Done, Number, Bay, Holds, Refused, Faulty, FaultyPair, Closed, NoRound}
use Rattle.round.specs.Texts.{taken_text, report_text}

-- the slot of a side
abbrev pub slot_name : Side → List ℕ
slot_name F = codes "free"
slot_name C = codes "class"

-- a bay, or the word for none
abbrev pub bay_text : Option ℕ → List ℕ
bay_text (Some bay) = decimal bay
bay_text None = codes "none"

-- a refusal by its number
abbrev pub refusal_text : Refusal → List ℕ
refusal_text e = codes "refused " ++ decimal (refusal_number e)

-- what a call of the round answers
abbrev pub called_text : Answer → List ℕ
called_text (answer.Count (Ok n)) = decimal n
called_text (answer.Count (Err e)) = refusal_text e
called_text (answer.Nearest (Ok bay)) = bay_text bay
called_text (answer.Nearest (Err e)) = refusal_text e
called_text (answer.Sign (Ok bay)) = bay_text bay
called_text (answer.Sign (Err e)) = refusal_text e
called_text (answer.Pick (Ok n)) = decimal n
called_text (answer.Pick (Err e)) = refusal_text e
called_text (answer.Go (Ok _)) = codes "ok"
called_text (answer.Go (Err e)) = refusal_text e
called_text (answer.Next t) = taken_text t
called_text (answer.Sheet w) = decimal w.bays ++ (codes " " ++ decimal w.stretches)

abbrev pub reply_text : Reply → List ℕ
reply_text Done = codes "ok"
reply_text (Number n) = decimal n
reply_text (Bay bay) = bay_text bay
reply_text (Holds true) = codes "yes"
reply_text (Holds false) = codes "no"
reply_text (Refused e) = refusal_text e
reply_text (Faulty x) = fault_text x
reply_text (FaultyPair x) = fault_text x.fault ++ (codes " " ++ slot_name x.side)
reply_text (Closed r) = report_text r
reply_text NoRound = codes "no round"
