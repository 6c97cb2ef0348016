-- What a draft is: its form, its parts, what opening them answers, and the set that they stand for.
use Rattle.std.specs.Prelude.{◌≡◌, ℕ, Bool, List}
use Rattle.faults.specs.Checks.{Verdict}
use Rattle.forms.specs.declared.choice.Choice.{Choice}
use Rattle.forms.specs.Opening.{fronts_told, opening_told, decoding_told}
use Rattle.forms.specs.Telling.{choice_told}
use Rattle.drafts.specs.declared.draft.Draft.{Draft}

abbrev pub choice_drafted : Draft → Choice
choice_drafted d = choice_told d.told

abbrev pub parts_drafted : Draft → List (List ℕ)
parts_drafted d = fronts_told d.told d.bytes.items d.numbers.items

abbrev pub opening_drafted : Draft → Verdict
opening_drafted d = opening_told d.told d.bytes.items d.numbers.items

abbrev pub set_drafted : Draft → List Bool
set_drafted d = decoding_told d.told d.bytes.items d.numbers.items

-- the same index, in whatever memory
abbrev pub SameDraft : Draft → Draft → Type 0
SameDraft d e = (e.told ≡ d.told) × (e.bytes.items ≡ d.bytes.items) × (e.numbers.items ≡ d.numbers.items)
