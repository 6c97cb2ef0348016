-- How a draft is written in a line: its numbers in decimal, and each part in the notation of its width, with one space between each two.
use Rattle.std.specs.Prelude.{ℕ, List, ◌++◌, map, decimal}
use Rattle.forms.specs.Choices.{by_width}
use Rattle.forms.specs.Telling.{opening_numbers}
use Rattle.notation.specs.Numbers.{numbers_text}
use Rattle.notation.specs.Parts.{bytes_text}
use Rattle.notation.specs.Words.{spaced}
use Rattle.drafts.specs.Drafts.{choice_drafted, parts_drafted}
use Rattle.drafts.specs.declared.draft.Draft.{Draft}

abbrev pub part_text : Draft → List ℕ → List ℕ
part_text d part = by_width (choice_drafted d) (bytes_text part) (numbers_text part)

abbrev pub draft_words : Draft → List (List ℕ)
draft_words d = map decimal (opening_numbers d.told) ++ map (part_text d) (parts_drafted d)

abbrev pub draft_text : Draft → List ℕ
draft_text d = spaced (draft_words d)
