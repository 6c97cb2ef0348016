-- What is left to show of `List::ends`.
use Rattle.std.proofs.Common.{◌∙◌}
use Rattle.std.proofs.lemmas.Bool.{le-ltb}
use Rattle.list.proofs.Ends.{at_end, no_end}
use Rattle.list.proofs.index.List.ends.Goals as goal

pub returns-then-members-gt0 : goal.returns-then-members-gt0
returns-then-members-gt0 c = let self = c.args.self.now in at_end _ self.climbs _ _ c.requires c.if-members-gt0.true

pub returns-else-members-gt0 : goal.returns-else-members-gt0
returns-else-members-gt0 c =
    let self = c.args.self.now in le-ltb 0 c.args.members c.if-members-gt0.false ∙ no_end _ self.climbs _ _ c.requires c.if-members-gt0.false
