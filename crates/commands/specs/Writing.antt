-- How a command is written in a line, and in what other ways it may be.
use Rattle.std.specs.Prelude.{◌≡◌, ℕ, ◌<◌, ◌≤◌, ◌^◌, List, [], ◌∷◌, ◌++◌, length, map, Some, codes, decimal}
use Rattle.std.specs.List.{All}
use Rattle.faults.specs.Texts.{form_name}
use Rattle.forms.specs.Choices.{form_of, by_width}
use Rattle.forms.specs.Opening.{fronts_told}
use Rattle.forms.specs.Telling.{choice_told, opening_numbers, bytes_told, numbers_told}
use Rattle.forms.specs.declared.choice.Choice.{Choice}
use Rattle.forms.specs.declared.choice.Choice.TheVariants as choices
use Rattle.notation.specs.Numbers.{number_of, numbers_of, numbers_text}
use Rattle.notation.specs.Parts.{bytes_of, bytes_text}
use Rattle.notation.specs.Words.{spaced}
use Rattle.replay.specs.declared.calls.Call as calls
use Rattle.sets.specs.declared.Sort.{Sort}
use Rattle.sets.specs.declared.Sort.TheVariants as sorts
use Rattle.commands.specs.declared.command.Question.{Question}
use Rattle.commands.specs.declared.command.Question.TheVariants as questions
use Rattle.commands.specs.declared.command.Slot.{Slot}
use Rattle.commands.specs.declared.command.Slot.TheVariants as slots
use Rattle.commands.specs.Said as says
use Rattle.commands.specs.Said.{Said, Written}

-- a word of a command, by what it says
pub data Piece : Type 0 where
  Name : (text : List ℕ) → Piece
  Number : (n : ℕ) → Piece
  Bytes : (part : List ℕ) → Piece
  Numbers : (part : List ℕ) → Piece

abbrev pub piece_text : Piece → List ℕ
piece_text (Name text) = text
piece_text (Number n) = decimal n
piece_text (Bytes part) = bytes_text part
piece_text (Numbers part) = numbers_text part

-- a word says this: a name in one way, a number with zeros in front as well, and a part in hex in either case
abbrev pub Says : Piece → List ℕ → Type 0
Says (Name text) word = word ≡ text
Says (Number n) word = number_of 4294967295 word ≡ Some n
Says (Bytes part) word = bytes_of word ≡ Some part
Says (Numbers part) word = numbers_of word ≡ Some part

-- the first of some words say these pieces, and the others are left; all of the words do
abbrev pub SayFirst : List Piece → List (List ℕ) → List (List ℕ) → Type 0
SayFirst [] words left = words ≡ left
SayFirst (piece ∷ pieces) [] left = ⊥
SayFirst (piece ∷ pieces) (word ∷ words) left = Says piece word × SayFirst pieces words left

abbrev pub SayAll : List Piece → List (List ℕ) → Type 0
SayAll pieces words = SayFirst pieces words []

abbrev pub slot_text : Slot → List ℕ
slot_text slots.Free = codes "free"
slot_text slots.Class = codes "class"

abbrev pub sort_text : Sort → List ℕ
sort_text sorts.Members = codes "member"
sort_text sorts.Others = codes "other"

-- a form, and its block size if it has one
abbrev pub choice_pieces : Choice → List Piece
choice_pieces (choices.Zombit size) = Name (form_name (form_of (choices.Zombit size))) ∷ Number size ∷ []
choice_pieces x = Name (form_name (form_of x)) ∷ []

-- the form of an index; its numbers and its parts
abbrev pub form_piece : Written → Piece
form_piece w = Name (form_name (form_of (choice_told w.told)))

abbrev pub part_piece : Choice → List ℕ → Piece
part_piece x part = by_width x (Bytes part) (Numbers part)

abbrev pub index_pieces : Written → List Piece
index_pieces w = map Number (opening_numbers w.told) ++ map (part_piece (choice_told w.told)) (fronts_told w.told w.bytes w.numbers)

abbrev pub question_pieces : Question → List Piece
question_pieces questions.Last = Name (codes "last") ∷ []
question_pieces (questions.Holds i) = Name (codes "holds") ∷ Number i ∷ []
question_pieces (questions.Next x i) = Name (codes "next") ∷ Name (sort_text x) ∷ Number i ∷ []
question_pieces (questions.Previous x i) = Name (codes "previous") ∷ Name (sort_text x) ∷ Number i ∷ []
question_pieces (questions.Rank x i) = Name (codes "rank") ∷ Name (sort_text x) ∷ Number i ∷ []
question_pieces (questions.Select x k) = Name (codes "select") ∷ Name (sort_text x) ∷ Number k ∷ []

abbrev pub call_pieces : calls.Call → List Piece
call_pieces calls.TheVariants.Next = Name (codes "next") ∷ []
call_pieces (calls.TheVariants.Sheet n) = Name (codes "sheet") ∷ Number n ∷ []
call_pieces (calls.TheVariants.Go q) = Name (codes "go") ∷ Number q ∷ []
call_pieces (calls.TheVariants.Count a b) = Name (codes "count") ∷ Number a ∷ Number b ∷ []
call_pieces (calls.TheVariants.Nearest p) = Name (codes "nearest") ∷ Number p ∷ []
call_pieces (calls.TheVariants.Sign s) = Name (codes "sign") ∷ Number s ∷ []
call_pieces (calls.TheVariants.Pick k) = Name (codes "pick") ∷ Number k ∷ []

abbrev pub pieces : Said → List Piece
pieces (says.Open x w) = Name (codes "open") ∷ Name (slot_text x) ∷ form_piece w ∷ index_pieces w
pieces (says.Pair free class) = Name (codes "pair") ∷ form_piece free ∷ (index_pieces free ++ index_pieces class)
pieces (says.Fill x choice) = Name (codes "fill") ∷ Name (slot_text x) ∷ choice_pieces choice
pieces (says.Turn x) = Name (codes "turn") ∷ Name (slot_text x) ∷ []
pieces (says.Level x a b) = Name (codes "level") ∷ Name (slot_text x) ∷ Number a ∷ Number b ∷ []
pieces (says.Ask x q) = Name (slot_text x) ∷ question_pieces q
pieces says.Round = Name (codes "round") ∷ []
pieces (says.Call x) = call_pieces x
pieces says.Close = Name (codes "close") ∷ []

-- the words of a command, each in the notation of answers; and the command in a line
abbrev pub said_words : Said → List (List ℕ)
said_words x = map piece_text (pieces x)

abbrev pub said_text : Said → List ℕ
said_text x = spaced (said_words x)

-- the parts of an index fill its memories
abbrev pub IsFull : Written → Type 0
IsFull w = (length w.bytes ≡ bytes_told w.told) × (length w.numbers ≡ numbers_told w.told)

-- what every command that is read keeps: indexes are full, those of a pair are of one form, and a sheet is not too long
abbrev pub IsWhole : Said → Type 0
IsWhole (says.Open x w) = IsFull w
IsWhole (says.Pair free class) = IsFull free × IsFull class × (form_of (choice_told class.told) ≡ form_of (choice_told free.told))
IsWhole (says.Call (calls.TheVariants.Sheet n)) = n ≤ 65536
IsWhole x = Unit {0}

-- numbers of 32 and of 16 bits, and bytes
abbrev pub PieceFits : Piece → Type 0
PieceFits (Name text) = Unit {0}
PieceFits (Number n) = n < 2 ^ 32
PieceFits (Bytes part) = All (λ b. b < 2 ^ 8) part
PieceFits (Numbers part) = All (λ n. n < 2 ^ 16) part
