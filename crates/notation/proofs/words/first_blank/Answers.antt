-- What the search for a blank finds.
use Rattle.std.proofs.Common.{rules, length, ap, ◌∙◌}
use Rattle.std.specs.Option.{unwrap_or}
use Rattle.std.proofs.lemmas.Iterator.{YieldsList-from_slice}
use Rattle.std.proofs.lemmas.Iterator.Search.{position_from_yields_List}
use Rattle.notation.proofs.Wording.{unwrap_or-position}
use Rattle.notation.specs.Words.{is_blank}
use Rattle.notation.proofs.words.first_blank.Goals as goal

pub returns : goal.returns
returns c =
    c.unwrap_or.ensures
    ∙ ap (λ place. unwrap_or place (length c.args.line.now))
    (position_from_yields_List is_blank _ _ _ c.position.ensures.ran (YieldsList-from_slice c.args.line.now (search rules))
    (λ x b q k. search rules))
    ∙ unwrap_or-position c.args.line.now
