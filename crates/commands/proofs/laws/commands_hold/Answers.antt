-- What is read is said, and what is said is read.
use Rattle.std.proofs.Common.{ℕ, List, ◌∷◌, ap}
use Rattle.std.specs.Prelude.{codes}
use Rattle.faults.specs.Texts.{form_name}
use Rattle.forms.specs.Choices.{form_of}
use Rattle.forms.specs.Telling.{choice_told}
use Rattle.commands.specs.Writing.{slot_text}
use Rattle.commands.proofs.Places.{reading_stops}
use Rattle.commands.proofs.Sayings.{reading_hears, reading_keeps}
use Rattle.commands.proofs.Texted.{index_words, line_said}
use Rattle.commands.proofs.laws.commands_hold.Goals as goal

pub returns-clause-exact : goal.returns-clause-exact
returns-clause-exact c = λ words x. (reading_keeps words x, λ h. reading_hears words x h.0 h.1)

pub returns-clause-text : goal.returns-clause-text
returns-clause-text c = line_said

pub returns-clause-first : goal.returns-clause-first
returns-clause-first c = reading_stops

pub returns-clause-drafted : goal.returns-clause-drafted
returns-clause-drafted c = λ s d.
    ap (λ (words : List (List ℕ)). codes "open" ∷ slot_text s ∷ form_name (form_of (choice_told d.told)) ∷ words)
    (index_words d.told d.bytes.items d.numbers.items)
