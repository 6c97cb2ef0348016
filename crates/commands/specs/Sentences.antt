-- How each command is read, word by word.
use Rattle.std.specs.Prelude.{ℕ, List, Result}
use Rattle.faults.specs.declared.fault.Form.{Form}
use Rattle.faults.specs.declared.fault.Form.TheVariants as forms
use Rattle.forms.specs.declared.choice.Choice.{Choice}
use Rattle.forms.specs.declared.choice.Choice.TheVariants as choices
use Rattle.replay.specs.declared.calls.Call.TheVariants as calls
use Rattle.commands.specs.declared.command.Question.{Question}
use Rattle.commands.specs.declared.command.Question.TheVariants as questions
use Rattle.commands.specs.declared.command.Slot.{Slot}
use Rattle.commands.specs.declared.command.Slot.TheVariants as slots
use Rattle.commands.specs.declared.expected.Expected.{Expected}
use Rattle.commands.specs.declared.names.Asked.{Asked}
use Rattle.commands.specs.declared.names.Asked.TheVariants as asks
use Rattle.commands.specs.declared.names.Name.{Name}
use Rattle.commands.specs.declared.names.Name.TheVariants as names
use Rattle.commands.specs.Kinds.{name, slot, form, asked, sort, number, sheet_number, bytes, numbers}
use Rattle.commands.specs.Reading.{Reader, ◌>>=◌, done, ended}
use Rattle.commands.specs.Said as says
use Rattle.commands.specs.Said.{Said, Written, plain_written, list_written, zombit_written, pioneer_written}

-- an index of each form: its numbers, and then its parts
unfoldable pub plain_index : Reader Written
plain_index = do
  last ← number
  bits ← bytes
  done (plain_written last bits)

unfoldable pub list_index : Reader Written
list_index = do
  last ← number
  members ← numbers
  done (list_written last members)

unfoldable pub zombit_index : Reader Written
zombit_index = do
  last ← number
  size ← number
  uniform ← bytes
  marked ← bytes
  mixed ← bytes
  done (zombit_written last size uniform marked mixed)

unfoldable pub pioneer_index : Reader Written
pioneer_index = do
  last ← number
  count ← number
  starts ← bytes
  sums ← bytes
  done (pioneer_written last count starts sums)

unfoldable pub index_of : Form → Reader Written
index_of forms.Plain = plain_index
index_of forms.List = list_index
index_of forms.Zombit = zombit_index
index_of forms.Pioneer = pioneer_index

-- a form to fill, with its block size if it has one
unfoldable pub choice_of : Form → Reader Choice
choice_of forms.Plain = done choices.Plain
choice_of forms.List = done choices.List
choice_of forms.Zombit = number >>= λ size. done (choices.Zombit size)
choice_of forms.Pioneer = done choices.Pioneer

-- a question: what follows its name
unfoldable pub question_of : Asked → Reader Question
question_of asks.Last = done questions.Last
question_of asks.Holds = do
  i ← number
  done (questions.Holds i)
question_of asks.Next = do
  x ← sort
  i ← number
  done (questions.Next x i)
question_of asks.Previous = do
  x ← sort
  i ← number
  done (questions.Previous x i)
question_of asks.Rank = do
  x ← sort
  i ← number
  done (questions.Rank x i)
question_of asks.Select = do
  x ← sort
  k ← number
  done (questions.Select x k)

unfoldable pub ask_of : Slot → Reader Said
ask_of slot = do
  x ← asked
  q ← question_of x
  done (says.Ask slot q)

-- a command of the slots, or of the round: what follows its name
unfoldable pub sentence_of : Name → Reader Said
sentence_of names.Open = do
  x ← slot
  f ← form
  index ← index_of f
  done (says.Open x index)
sentence_of names.Pair = do
  f ← form
  free ← index_of f
  class ← index_of f
  done (says.Pair free class)
sentence_of names.Fill = do
  x ← slot
  f ← form
  choice ← choice_of f
  done (says.Fill x choice)
sentence_of names.Turn = do
  x ← slot
  done (says.Turn x)
sentence_of names.Level = do
  x ← slot
  a ← number
  b ← number
  done (says.Level x a b)
sentence_of names.Free = ask_of slots.Free
sentence_of names.Class = ask_of slots.Class
sentence_of names.Round = done says.Round
sentence_of names.Next = done (says.Call calls.Next)
sentence_of names.Sheet = do
  n ← sheet_number
  done (says.Call (calls.Sheet n))
sentence_of names.Go = do
  q ← number
  done (says.Call (calls.Go q))
sentence_of names.Count = do
  a ← number
  b ← number
  done (says.Call (calls.Count a b))
sentence_of names.Nearest = do
  p ← number
  done (says.Call (calls.Nearest p))
sentence_of names.Sign = do
  s ← number
  done (says.Call (calls.Sign s))
sentence_of names.Pick = do
  k ← number
  done (says.Call (calls.Pick k))
sentence_of names.Close = done says.Close

-- all of the words of a line, as one command
unfoldable pub reading : List (List ℕ) → Result Said Expected
reading words = ended ((name >>= sentence_of) words)
