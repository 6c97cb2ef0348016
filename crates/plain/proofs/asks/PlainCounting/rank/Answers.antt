-- What is left to show of `PlainCounting::rank`.
use Rattle.std.proofs.Common.{ap, ◌∙◌}
use Rattle.sets.specs.Search.{count_to}
use Rattle.sets.specs.Sets.{share}
use Rattle.sets.proofs.Made.{made_share}
use Rattle.bits.specs.Bits.{bit_at}
use Rattle.plain.proofs.asks.PlainCounting.rank.Goals as goal

pub returns : goal.returns
returns c =
    let bytes = c.args.self.now.bits.now in
    let members = c.ones.ensures.value ∙ ap (count_to (bit_at bytes)) c.min-to.ensures in
    c.share.ensures ∙ ap (share c.args.sort c.ones.result) c.min-to.ensures ∙ made_share c.args.self.now.last (bit_at bytes) c.args.sort c.args.i _ members
