-- What is left to show of `PlainWalking::holds`.
use Rattle.std.proofs.Common.{sym, ◌∙◌, arith}
use Rattle.sets.specs.declared.Sort.TheVariants.{Members}
use Rattle.sets.proofs.Bays.{is_none}
use Rattle.sets.proofs.Made.{made_is, made_outside}
use Rattle.plain.proofs.asks.PlainWalking.holds.Goals as goal
use Rattle.plain.proofs.asks.PlainWalking.holds.Goals.{then-i-eq0-via-then-i-eq0, then-i-eq0-via-else-i-eq0+then-i-self}

pub returns-then-i-eq0 : goal.returns-then-i-eq0
returns-then-i-eq0 c =
    elim c.then-i-eq0.branch [
      | then-i-eq0-via-then-i-eq0 w ↦ sym (is_none _ _ _ w.if-i-eq0.true)
      | then-i-eq0-via-else-i-eq0+then-i-self w ↦ sym (made_outside _ _ _ _ w.if-i-self.true)
    ]

pub returns : goal.returns
returns c = c.get.ensures ∙ sym (made_is _ _ Members _ (omega arith) (omega arith))
