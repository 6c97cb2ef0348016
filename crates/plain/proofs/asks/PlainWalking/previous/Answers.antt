-- What is left to show of `PlainWalking::previous`.
use Rattle.std.proofs.Common.{ap, ◌∙◌}
use Rattle.sets.specs.Made.{of_sort}
use Rattle.sets.specs.Search.{last_to}
use Rattle.sets.proofs.Made.{made_previous}
use Rattle.bits.specs.Bits.{bit_at}
use Rattle.plain.proofs.asks.PlainWalking.previous.Goals as goal

pub returns : goal.returns
returns c =
    let u = c.args.self.now.last in
    let bytes = c.args.self.now.bits.now in
    c.previous.ensures
    ∙ ap (last_to (of_sort c.args.sort (bit_at bytes))) c.min.ensures
    ∙ made_previous u (bit_at bytes) c.args.sort c.args.i
