-- What is left to show of `ListCounting::rank`.
use Rattle.std.proofs.Common.{ap, ◌∙◌}
use Rattle.sets.specs.Search.{count_to}
use Rattle.sets.specs.Sets.{share}
use Rattle.sets.proofs.Made.{made_share}
use Rattle.list.specs.Decoding.{is_among}
use Rattle.list.proofs.asks.ListCounting.rank.Goals as goal

pub returns : goal.returns
returns c =
    let ns = c.args.self.now.numbers.now in
    let members = c.members_to.ensures.value ∙ ap (count_to (is_among ns)) c.min-to.ensures in
    c.share.ensures
    ∙ ap (share c.args.sort c.members_to.result) c.min-to.ensures
    ∙ made_share c.args.self.now.last (is_among ns) c.args.sort c.args.i _ members
