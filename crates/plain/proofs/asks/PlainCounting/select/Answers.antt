-- What is left to show of `PlainCounting::select`.
use Rattle.std.proofs.Common.{◌∙◌}
use Rattle.sets.proofs.Made.{made_select}
use Rattle.bits.specs.Bits.{bit_at}
use Rattle.plain.proofs.asks.PlainCounting.select.Goals as goal

pub returns : goal.returns
returns c =
    let u = c.args.self.now.last in
    let bytes = c.args.self.now.bits.now in
    c.kth.ensures ∙ made_select u (bit_at bytes) c.args.sort c.args.n
