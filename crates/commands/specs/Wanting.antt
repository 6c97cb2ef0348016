-- What a command wants at each of its places, and where words stop being the first words of one.
use Rattle.std.specs.Prelude.{◌≡◌, ℕ, zero, suc, ◌<◌, ◌≤◌, List, [], ◌∷◌, ◌++◌, length, take, Option, None, Some, Ok}
use Rattle.faults.specs.declared.fault.Form.{Form}
use Rattle.faults.specs.declared.fault.Form.TheVariants as forms
use Rattle.forms.specs.Choices.{form_of}
use Rattle.forms.specs.Telling.{choice_told}
use Rattle.replay.specs.declared.calls.Call.{Call}
use Rattle.replay.specs.declared.calls.Call.TheVariants as calls
use Rattle.commands.specs.declared.command.Question.{Question}
use Rattle.commands.specs.declared.command.Question.TheVariants as questions
use Rattle.commands.specs.declared.expected.Expected.{Expected}
use Rattle.commands.specs.declared.expected.Expected.TheVariants as e
use Rattle.commands.specs.Said as says
use Rattle.commands.specs.Said.{Said, Written}
use Rattle.commands.specs.Sentences.{reading}

-- behind a form: what an index wants, and a form to fill
abbrev pub index_wants : Form → List Expected
index_wants forms.Plain = e.Number ∷ e.Bytes ∷ []
index_wants forms.List = e.Number ∷ e.Numbers ∷ []
index_wants forms.Zombit = e.Number ∷ e.Number ∷ e.Bytes ∷ e.Bytes ∷ e.Bytes ∷ []
index_wants forms.Pioneer = e.Number ∷ e.Number ∷ e.Bytes ∷ e.Bytes ∷ []

abbrev pub choice_wants : Form → List Expected
choice_wants forms.Zombit = e.Number ∷ []
choice_wants f = []

abbrev pub form_written : Written → Form
form_written w = form_of (choice_told w.told)

-- behind the name of a question, and of a call
abbrev pub question_wants : Question → List Expected
question_wants questions.Last = []
question_wants (questions.Holds i) = e.Number ∷ []
question_wants (questions.Next x i) = e.Sort ∷ e.Number ∷ []
question_wants (questions.Previous x i) = e.Sort ∷ e.Number ∷ []
question_wants (questions.Rank x i) = e.Sort ∷ e.Number ∷ []
question_wants (questions.Select x k) = e.Sort ∷ e.Number ∷ []

abbrev pub call_wants : Call → List Expected
call_wants calls.Next = []
call_wants (calls.Sheet n) = e.SheetNumber ∷ []
call_wants (calls.Count a b) = e.Number ∷ e.Number ∷ []
call_wants (calls.Nearest p) = e.Number ∷ []
call_wants (calls.Sign s) = e.Number ∷ []
call_wants (calls.Pick k) = e.Number ∷ []
call_wants (calls.Go q) = e.Number ∷ []

-- behind the name of a command
abbrev pub tail_wants : Said → List Expected
tail_wants (says.Open x w) = e.Slot ∷ e.Form ∷ index_wants (form_written w)
tail_wants (says.Pair free class) = e.Form ∷ index_wants (form_written free) ++ index_wants (form_written class)
tail_wants (says.Fill x choice) = e.Slot ∷ e.Form ∷ choice_wants (form_of choice)
tail_wants (says.Turn x) = e.Slot ∷ []
tail_wants (says.Level x a b) = e.Slot ∷ e.Number ∷ e.Number ∷ []
tail_wants (says.Ask x q) = e.Question ∷ question_wants q
tail_wants says.Round = []
tail_wants (says.Call x) = call_wants x
tail_wants says.Close = []

abbrev pub wants : Said → List Expected
wants x = e.Command ∷ tail_wants x ++ e.End ∷ []

-- what is wanted at a place, counted from 0
abbrev pub wanted_at : List Expected → ℕ → Option Expected
wanted_at [] k = None
wanted_at (x ∷ xs) zero = Some x
wanted_at (x ∷ xs) (suc k) = wanted_at xs k

-- the words before a place are the first of a command, which wants this there; with the word that stands there they are of none
pub record StopsAt (words : List (List ℕ)) (expected : Expected) : Type 0 where
  pub at : ℕ
  pub within : at ≤ length words
  pub command : Said
  pub more : List (List ℕ)
  pub begins : reading (take at words ++ more) ≡ Ok command
  pub wanted : wanted_at (wants command) at ≡ Some expected
  pub unfit : at < length words → (others : List (List ℕ)) (x : Said) → reading (take (suc at) words ++ others) ≡ Ok x → ⊥
