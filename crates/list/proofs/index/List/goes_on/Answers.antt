-- What is left to show of `List::goes_on`.
use Rattle.std.proofs.Common.{◌∙◌}
use Rattle.std.proofs.lemmas.Bool.{le-ltb}
use Rattle.list.proofs.Ends.{at_next, no_next}
use Rattle.list.proofs.index.List.goes_on.Goals as goal

pub returns-then-place-self : goal.returns-then-place-self
returns-then-place-self c = let self = c.args.self.now in at_next _ self.climbs _ _ c.requires.cut c.if-place-self.true

pub returns-else-place-self : goal.returns-else-place-self
returns-else-place-self c =
    let self = c.args.self.now in le-ltb _ _ c.if-place-self.false ∙ no_next _ self.climbs _ _ c.requires.cut c.if-place-self.false
