-- What an index of any form is opened from: what opening it answers, the set that it stands for, and what an index of it holds.
use Rattle.std.specs.Prelude.{◌≡◌, ℕ, Bool, List, [], ◌∷◌}
use Rattle.faults.specs.Checks.{Verdict}
use Rattle.forms.specs.declared.choice.Choice.{Choice}
use Rattle.forms.specs.declared.choice.Choice.TheVariants as choices
use Rattle.forms.specs.declared.index.Index.{Index}
use Rattle.forms.specs.declared.source.Source.{Source}
use Rattle.forms.specs.declared.source.Source.TheVariants.{Plain, List as Listed, Zombit, Pioneer}
use Rattle.forms.specs.Meant.{choice_held, numbers_held, parts_held}
use Rattle.plain.specs.Opening as plain
use Rattle.plain.specs.Decoding as plain_sets
use Rattle.list.specs.Opening as list
use Rattle.list.specs.Decoding as list_sets
use Rattle.zombit.specs.Opening as zombit
use Rattle.zombit.specs.Blocks as zombit_sets
use Rattle.zombit.specs.Decoding as zombit_laws
use Rattle.pioneer.specs.Opening as pioneer
use Rattle.pioneer.specs.Runs as pioneer_sets
use Rattle.pioneer.specs.Decoding as pioneer_laws

-- its form, its numbers, and its parts
abbrev pub choice_given : Source → Choice
choice_given (Plain s) = choices.Plain
choice_given (Listed s) = choices.List
choice_given (Zombit s) = choices.Zombit s.size
choice_given (Pioneer s) = choices.Pioneer

abbrev pub numbers_given : Source → List ℕ
numbers_given (Plain s) = s.last ∷ []
numbers_given (Listed s) = s.last ∷ []
numbers_given (Zombit s) = s.last ∷ s.size ∷ []
numbers_given (Pioneer s) = s.last ∷ s.count ∷ []

abbrev pub parts_given : Source → List (List ℕ)
parts_given (Plain s) = s.bits.now ∷ []
parts_given (Listed s) = s.numbers.now ∷ []
parts_given (Zombit s) = s.uniform.now ∷ s.marked.now ∷ s.mixed.now ∷ []
parts_given (Pioneer s) = s.starts.now ∷ s.sums.now ∷ []

-- what opening answers in its form
abbrev pub opening_given : Source → Verdict
opening_given (Plain s) = plain.opening s.last s.bits.now
opening_given (Listed s) = list.opening s.last s.numbers.now
opening_given (Zombit s) = zombit.opening s.last s.size s.uniform.now s.marked.now s.mixed.now
opening_given (Pioneer s) = pioneer.opening s.last s.count s.starts.now s.sums.now

-- when which answer is due, in the words of the form
abbrev pub GivenIs : Source → Verdict → Type 0
GivenIs (Plain s) = plain.OpeningIs s.last s.bits.now
GivenIs (Listed s) = list.OpeningIs s.last s.numbers.now
GivenIs (Zombit s) = zombit.OpeningIs s.last s.size s.uniform.now s.marked.now s.mixed.now
GivenIs (Pioneer s) = pioneer.OpeningIs s.last s.count s.starts.now s.sums.now

-- the set that it stands for
abbrev pub decoding_given : Source → List Bool
decoding_given (Plain s) = plain_sets.set_of s.last s.bits.now
decoding_given (Listed s) = list_sets.set_of s.last s.numbers.now
decoding_given (Zombit s) = zombit_sets.set_of s.last s.size s.uniform.now s.marked.now s.mixed.now
decoding_given (Pioneer s) = pioneer_sets.set_of s.last s.count s.starts.now s.sums.now

-- the law of that set, in the words of the form
abbrev pub GivenDecodes : Source → List Bool → Type 0
GivenDecodes (Plain s) = plain_sets.Decodes s.last s.bits.now
GivenDecodes (Listed s) = list_sets.Decodes s.last s.numbers.now
GivenDecodes (Zombit s) = zombit_laws.Decodes s.last s.size s.uniform.now s.marked.now s.mixed.now
GivenDecodes (Pioneer s) = pioneer_laws.Decodes s.last s.count s.starts.now s.sums.now

-- an index has exactly the form, the numbers and the parts of a source
abbrev pub HoldsGiven : Index → Source → Type 0
HoldsGiven index s = (choice_held index ≡ choice_given s) × (numbers_held index ≡ numbers_given s) × (parts_held index ≡ parts_given s)
