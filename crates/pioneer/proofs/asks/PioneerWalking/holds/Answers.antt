-- What is left to show of `PioneerWalking::holds`.
use Rattle.std.proofs.Common.{sym, ◌∙◌}
use Rattle.std.proofs.lemmas.Bool.{lt-leb}
use Rattle.sets.proofs.Made.{made_outside}
use Rattle.pioneer.proofs.Answered.{holds_by, member_is}
use Rattle.pioneer.proofs.asks.PioneerWalking.holds.Goals as goal

pub returns-then-begins : goal.returns-then-begins
returns-then-begins c = c.if-begins.true ∙ sym (c.begins.ensures c.if-begins.true).1 ∙ member_is c.args.self.now c.args.i c.if-i-self.true

pub returns-else-begins : goal.returns-else-begins
returns-else-begins c = c.is_some.ensures ∙ holds_by c.args.self.now c.args.i c.held.result c.if-i-self.true c.held.ensures

pub returns-else-i-self : goal.returns-else-i-self
returns-else-i-self c = lt-leb _ _ c.if-i-self.false ∙ sym (made_outside _ _ _ _ c.if-i-self.false)
