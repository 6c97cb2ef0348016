-- What is left to show of `PlainWalking::next`.
use Rattle.std.proofs.Common.{ℕ, suc, ◌-◌, ap, ◌∙◌}
use Rattle.sets.specs.Made.{of_sort}
use Rattle.sets.specs.Search.{first_from}
use Rattle.sets.proofs.Made.{made_next}
use Rattle.bits.specs.Bits.{bit_at}
use Rattle.plain.proofs.asks.PlainWalking.next.Goals as goal

pub returns : goal.returns
returns c =
    let u = c.args.self.now.last in
    let bytes = c.args.self.now.bits.now in
    c.next.ensures
    ∙ ap (λ (n : ℕ). first_from (of_sort c.args.sort (bit_at bytes)) n (suc u - n)) c.max.ensures
    ∙ made_next u (bit_at bytes) c.args.sort c.args.i
