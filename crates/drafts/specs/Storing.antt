-- The set that a stored index stands for, and which index of a set filling makes.
use Rattle.std.specs.Prelude.{◌≡◌, Bool, List}
use Rattle.forms.specs.declared.choice.Choice.{Choice}
use Rattle.forms.specs.Choices.{layout_of}
use Rattle.forms.specs.Laying.{bytes_of, numbers_of}
use Rattle.forms.specs.Telling.{opening_numbers, told_of}
use Rattle.drafts.specs.Drafts.{choice_drafted, parts_drafted, set_drafted}
use Rattle.drafts.specs.declared.stored.Stored.{Stored}

abbrev pub stored_set : Stored → List Bool
stored_set x = set_drafted x.draft

-- the index of the set in this form: its numbers and its parts are those that the form has for the set, and stand for it; and they lie in
-- memory exactly as filling writes them
pub record IsFilled (x : Choice) (s : List Bool) (stored : Stored) : Type 0 where
  pub choice : choice_drafted stored.draft ≡ x
  pub takes : opening_numbers stored.draft.told ≡ (layout_of x).numbers s
  pub parts : parts_drafted stored.draft ≡ (layout_of x).parts s
  pub set : stored_set stored ≡ s
  pub told : stored.draft.told ≡ told_of x s
  pub bytes : stored.draft.bytes.items ≡ bytes_of x s
  pub numbers : stored.draft.numbers.items ≡ numbers_of x s
