-- What is left to show of `ListWalking::holds`.
use Rattle.std.proofs.Common.{sym, ◌∙◌}
use Rattle.list.proofs.Holding.{member_among}
use Rattle.list.proofs.asks.ListWalking.holds.Goals as goal

pub returns : goal.returns
returns c = let self = c.args.self.now in c.ends.ensures ∙ sym (member_among self.last _ self.inside c.args.i)
