-- What is left to show of `ZombitCounting::rank`.
use Rattle.std.proofs.Common.{ap, ◌∙◌}
use Rattle.sets.specs.Search.{count_to}
use Rattle.sets.specs.Sets.{share}
use Rattle.sets.proofs.Made.{made_share}
use Rattle.zombit.specs.Meant.{bays}
use Rattle.zombit.proofs.asks.ZombitCounting.rank.Goals as goal

pub returns : goal.returns
returns c =
    let z = c.args.self.now in
    let members = c.members_to.ensures ∙ ap (count_to (bays z)) c.min-to.ensures in
    c.share.ensures ∙ ap (share c.args.sort c.members_to.result) c.min-to.ensures ∙ made_share z.blocks.last (bays z) c.args.sort c.args.i _ members
