-- What is left to show of `ZombitWalking::bits`.
use Rattle.std.proofs.Common.{ℕ, ◌*◌, false, length, ap, ◌∙◌, arith}
use Rattle.sets.specs.Packing.{pack}
use Rattle.zombit.proofs.Unpacked.{packed_none, row_none}
use Rattle.zombit.proofs.asks.ZombitWalking.bits.Goals as goal

pub unpack-requires-clause-clear : goal.unpack-requires-clause-clear
unpack-requires-clause-clear c = packed_none _ _ (c.fill.ensures.after (λ y e. e))

pub returns-else-before-self : goal.returns-else-before-self
returns-else-before-self c =
    packed_none _ _ (c.fill.ensures.after (λ y e. e)) ∙ ap (λ (m : ℕ). pack (8 * m) (λ i. false)) c.fill.ensures.len
    ∙ row_none c.args.self.now c.args.before (8 * length c.args.out.now) (omega arith)
