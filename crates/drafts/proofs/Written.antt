-- The text of a draft, form by form, from what its index opens from.
use Rattle.std.proofs.Common.{◌≡◌, ◌∷◌, ◌++◌, map, sym}
use Rattle.std.specs.Prelude.{decimal}
use Rattle.forms.specs.Choices.{by_width}
use Rattle.forms.specs.Sources.{choice_given, numbers_given, parts_given}
use Rattle.forms.specs.Telling.{opening_numbers}
use Rattle.forms.specs.declared.source.Source.{Source}
use Rattle.forms.specs.declared.source.Source.TheVariants.{Plain, List as Listed, Zombit, Pioneer}
use Rattle.list.specs.declared.source.ListSource.{ListSource}
use Rattle.notation.specs.Numbers.{numbers_text}
use Rattle.notation.specs.Parts.{bytes_text}
use Rattle.notation.specs.Words.{spaced}
use Rattle.pioneer.specs.declared.source.PioneerSource.{PioneerSource}
use Rattle.plain.specs.declared.source.PlainSource.{PlainSource}
use Rattle.zombit.specs.declared.source.ZombitSource.{ZombitSource}
use Rattle.drafts.specs.Drafts.{choice_drafted, parts_drafted}
use Rattle.drafts.specs.Texts.{draft_text}
use Rattle.drafts.specs.declared.draft.Draft.{Draft}

-- the draft has the form, the numbers and the parts of the source
module _ (d : Draft) (s : Source) (form : choice_given s ≡ choice_drafted d) (numbers : numbers_given s ≡ opening_numbers d.told) (parts : parts_given s ≡ parts_drafted d) where
  pub text_given : draft_text d ≡ spaced (map decimal (numbers_given s) ++ map (λ part. by_width (choice_given s) (bytes_text part) (numbers_text part)) (parts_given s))
  text_given = λ i. spaced (map decimal (sym numbers i) ++ map (λ part. by_width (sym form i) (bytes_text part) (numbers_text part)) (sym parts i))

pub plain_text : (d : Draft) (s : PlainSource) → choice_given (Plain s) ≡ choice_drafted d → numbers_given (Plain s) ≡ opening_numbers d.told → parts_given (Plain s) ≡ parts_drafted d
    → draft_text d ≡ decimal s.last ++ 32 ∷ bytes_text s.bits.now
unfolding spaced
plain_text d s form numbers parts = text_given d (Plain s) form numbers parts

pub list_text : (d : Draft) (s : ListSource) → choice_given (Listed s) ≡ choice_drafted d → numbers_given (Listed s) ≡ opening_numbers d.told → parts_given (Listed s) ≡ parts_drafted d
    → draft_text d ≡ decimal s.last ++ 32 ∷ numbers_text s.numbers.now
unfolding spaced
list_text d s form numbers parts = text_given d (Listed s) form numbers parts

pub zombit_text : (d : Draft) (s : ZombitSource) → choice_given (Zombit s) ≡ choice_drafted d → numbers_given (Zombit s) ≡ opening_numbers d.told → parts_given (Zombit s) ≡ parts_drafted d
    → draft_text d ≡ decimal s.last ++ 32 ∷ (decimal s.size ++ 32 ∷ (bytes_text s.uniform.now ++ 32 ∷ (bytes_text s.marked.now ++ 32 ∷ bytes_text s.mixed.now)))
unfolding spaced
zombit_text d s form numbers parts = text_given d (Zombit s) form numbers parts

pub pioneer_text : (d : Draft) (s : PioneerSource) → choice_given (Pioneer s) ≡ choice_drafted d → numbers_given (Pioneer s) ≡ opening_numbers d.told → parts_given (Pioneer s) ≡ parts_drafted d
    → draft_text d ≡ decimal s.last ++ 32 ∷ (decimal s.count ++ 32 ∷ (bytes_text s.starts.now ++ 32 ∷ bytes_text s.sums.now))
unfolding spaced
pioneer_text d s form numbers parts = text_given d (Pioneer s) form numbers parts
