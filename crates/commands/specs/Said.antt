-- What a line says, wherever its parts lie in memory.
use Rattle.std.specs.Prelude.{ℕ, List, [], ◌++◌, length}
use Rattle.drafts.specs.declared.draft.Draft.{Draft}
use Rattle.forms.specs.declared.choice.Choice.{Choice}
use Rattle.forms.specs.declared.told.Told.{Told}
use Rattle.forms.specs.declared.told.Told.TheVariants as told
use Rattle.replay.specs.declared.calls.Call as calls
use Rattle.commands.specs.declared.command.Command.{Command}
use Rattle.commands.specs.declared.command.Command.TheVariants as commands
use Rattle.commands.specs.declared.command.Question.{Question}
use Rattle.commands.specs.declared.command.Slot.{Slot}

-- an index: its numbers and how long each part is, and its parts, one behind the other
pub record Written : Type 0 where
  pub told : Told
  pub bytes : List ℕ
  pub numbers : List ℕ

abbrev pub written : Draft → Written
written d = record { told = d.told; bytes = d.bytes.items; numbers = d.numbers.items }

-- an index of each form, by its numbers and its parts
abbrev pub plain_written : (last : ℕ) (bits : List ℕ) → Written
plain_written last bits = record { told = told.Plain (record { last = last; bits = length bits }); bytes = bits; numbers = [] }

abbrev pub list_written : (last : ℕ) (members : List ℕ) → Written
list_written last members =
    record { told = told.List (record { last = last; numbers = length members }); bytes = []; numbers = members }

abbrev pub zombit_written : (last size : ℕ) (uniform marked mixed : List ℕ) → Written
zombit_written last size uniform marked mixed =
    record {
      told = told.Zombit (record { last = last; size = size; uniform = length uniform; marked = length marked; mixed = length mixed });
      bytes = uniform ++ marked ++ mixed;
      numbers = [];
    }

abbrev pub pioneer_written : (last count : ℕ) (starts sums : List ℕ) → Written
pioneer_written last count starts sums =
    record {
      told = told.Pioneer (record { last = last; count = count; starts = length starts; sums = length sums });
      bytes = starts ++ sums;
      numbers = [];
    }

-- a command
pub data Said : Type 0 where
  Open : (slot : Slot) (index : Written) → Said
  Pair : (free class : Written) → Said
  Fill : (slot : Slot) (choice : Choice) → Said
  Turn : (slot : Slot) → Said
  Level : (slot : Slot) (a b : ℕ) → Said
  Ask : (slot : Slot) (question : Question) → Said
  Round : Said
  Call : (call : calls.Call) → Said
  Close : Said

abbrev pub said : Command → Said
said (commands.Open slot draft) = Open slot (written draft)
said (commands.Pair free class) = Pair (written free) (written class)
said (commands.Fill slot choice) = Fill slot choice
said (commands.Turn slot) = Turn slot
said (commands.Level slot a b) = Level slot a b
said (commands.Ask slot question) = Ask slot question
said commands.Round = Round
said (commands.Call call) = Call call
said commands.Close = Close
