-- What is left to show of `PioneerCounting::rank`.
use Rattle.std.proofs.Common.{ap, ◌∙◌}
use Rattle.sets.specs.Search.{count_to}
use Rattle.sets.specs.Sets.{share}
use Rattle.sets.proofs.Made.{made_share}
use Rattle.pioneer.specs.Found.{member_of}
use Rattle.pioneer.proofs.asks.PioneerCounting.rank.Goals as goal

pub returns : goal.returns
returns c =
    let p = c.args.self.now in
    let members = c.members.ensures.value ∙ ap (count_to (member_of p)) c.min-to.ensures in
    c.share.ensures ∙ ap (share c.args.sort c.members.result) c.min-to.ensures ∙ made_share p.last (member_of p) c.args.sort c.args.i _ members
