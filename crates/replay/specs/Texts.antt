-- How a call, its answer and an exchange read: words and numbers with a blank between them.
use Rattle.std.specs.Prelude.{ℕ, List, ◌++◌, codes, decimal, Ok, Err, Option}
use Rattle.std.specs.Option.{unwrap_or}
use Rattle.faults.specs.Numbers.{refusal_number}
use Rattle.faults.specs.declared.fault.Refusal.{Refusal}
use Rattle.round.specs.Texts.{taken_text}
use Rattle.replay.specs.declared.calls.Answer.{Answer}
use Rattle.replay.specs.declared.calls.Answer.TheVariants as answer
use Rattle.replay.specs.declared.calls.Call.{Call}
use Rattle.replay.specs.declared.calls.Call.TheVariants as call
use Rattle.replay.specs.declared.calls.Exchange.{Exchange}

-- a word, and the number that it is asked with
abbrev with_number : List ℕ → ℕ → List ℕ
with_number word n = word ++ (codes " " ++ decimal n)

abbrev pub call_text : Call → List ℕ
call_text (call.Count a b) = with_number (with_number (codes "count") a) b
call_text (call.Nearest p) = with_number (codes "nearest") p
call_text (call.Sign n) = with_number (codes "sign") n
call_text (call.Pick k) = with_number (codes "pick") k
call_text (call.Go q) = with_number (codes "go") q
call_text call.Next = codes "next"
call_text (call.Sheet k) = with_number (codes "sheet") k

-- a refusal by its number
abbrev refusal_text : Refusal → List ℕ
refusal_text e = with_number (codes "refused") (refusal_number e)

-- a bay, 0 for none
abbrev bay_text : Option ℕ → List ℕ
bay_text bay = decimal (unwrap_or bay 0)

abbrev pub answer_text : Answer → List ℕ
answer_text (answer.Count (Ok n)) = decimal n
answer_text (answer.Count (Err e)) = refusal_text e
answer_text (answer.Nearest (Ok bay)) = bay_text bay
answer_text (answer.Nearest (Err e)) = refusal_text e
answer_text (answer.Sign (Ok bay)) = bay_text bay
answer_text (answer.Sign (Err e)) = refusal_text e
answer_text (answer.Pick (Ok n)) = decimal n
answer_text (answer.Pick (Err e)) = refusal_text e
answer_text (answer.Go (Ok _)) = codes "gone"
answer_text (answer.Go (Err e)) = refusal_text e
answer_text (answer.Next t) = taken_text t
answer_text (answer.Sheet w) = with_number (decimal w.bays) w.stretches

-- a call, and what the two readers were answered
abbrev pub exchange_text : Exchange → List ℕ
exchange_text x = call_text x.call ++ (codes ": " ++ (answer_text x.first ++ (codes " | " ++ answer_text x.second)))
