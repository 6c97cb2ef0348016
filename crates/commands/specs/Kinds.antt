-- The kinds of words.
use Rattle.std.specs.Prelude.{ℕ, List, [], ◌∷◌, codes}
use Rattle.faults.specs.declared.fault.Form.{Form}
use Rattle.faults.specs.declared.fault.Form.TheVariants as forms
use Rattle.sets.specs.declared.Sort.{Sort}
use Rattle.sets.specs.declared.Sort.TheVariants as sorts
use Rattle.notation.specs.Numbers.{number_of, numbers_of}
use Rattle.notation.specs.Parts.{bytes_of}
use Rattle.commands.specs.declared.command.Slot.{Slot}
use Rattle.commands.specs.declared.command.Slot.TheVariants as slots
use Rattle.commands.specs.declared.expected.Expected.TheVariants as expected
use Rattle.commands.specs.declared.names.Asked.{Asked}
use Rattle.commands.specs.declared.names.Asked.TheVariants as asks
use Rattle.commands.specs.declared.names.Name.{Name}
use Rattle.commands.specs.declared.names.Name.TheVariants as names
use Rattle.commands.specs.Reading.{Reader, Listing, wanted, listed}

abbrev pub name_words : Listing Name
name_words =
    (codes "open", names.Open) ∷ (codes "pair", names.Pair) ∷ (codes "fill", names.Fill) ∷ (codes "turn", names.Turn)
    ∷ (codes "level", names.Level) ∷ (codes "free", names.Free) ∷ (codes "class", names.Class) ∷ (codes "round", names.Round)
    ∷ (codes "next", names.Next) ∷ (codes "sheet", names.Sheet) ∷ (codes "go", names.Go) ∷ (codes "count", names.Count)
    ∷ (codes "nearest", names.Nearest) ∷ (codes "sign", names.Sign) ∷ (codes "pick", names.Pick) ∷ (codes "close", names.Close) ∷ []

abbrev pub slot_words : Listing Slot
slot_words = (codes "free", slots.Free) ∷ (codes "class", slots.Class) ∷ []

abbrev pub form_words : Listing Form
form_words = (codes "plain", forms.Plain) ∷ (codes "list", forms.List) ∷ (codes "zombit", forms.Zombit) ∷ (codes "pioneer", forms.Pioneer) ∷ []

abbrev pub asked_words : Listing Asked
asked_words =
    (codes "last", asks.Last) ∷ (codes "holds", asks.Holds) ∷ (codes "next", asks.Next) ∷ (codes "previous", asks.Previous)
    ∷ (codes "rank", asks.Rank) ∷ (codes "select", asks.Select) ∷ []

abbrev pub sort_words : Listing Sort
sort_words = (codes "member", sorts.Members) ∷ (codes "other", sorts.Others) ∷ []

unfoldable pub name : Reader Name
name = wanted expected.Command (listed name_words)

unfoldable pub slot : Reader Slot
slot = wanted expected.Slot (listed slot_words)

unfoldable pub form : Reader Form
form = wanted expected.Form (listed form_words)

unfoldable pub asked : Reader Asked
asked = wanted expected.Question (listed asked_words)

unfoldable pub sort : Reader Sort
sort = wanted expected.Sort (listed sort_words)

-- a number of 32 bits
unfoldable pub number : Reader ℕ
number = wanted expected.Number (number_of 4294967295)

-- how many bays a sheet has
unfoldable pub sheet_number : Reader ℕ
sheet_number = wanted expected.SheetNumber (number_of 65536)

-- a part in hex, and one in numbers
unfoldable pub bytes : Reader (List ℕ)
bytes = wanted expected.Bytes bytes_of

unfoldable pub numbers : Reader (List ℕ)
numbers = wanted expected.Numbers numbers_of
