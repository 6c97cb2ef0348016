-- What is left to show of `ZombitWalking::next`.
use Rattle.std.proofs.Common.{None, ap, ◌∙◌, arith}
use Rattle.sets.specs.Made.{made_length}
use Rattle.sets.proofs.Bays.{is_beyond}
use Rattle.sets.proofs.Only.{next_by}
use Rattle.zombit.specs.Meant.{bays, first_place, cut_at}
use Rattle.zombit.proofs.Asked.{next_is}
use Rattle.zombit.proofs.asks.ZombitWalking.next.Goals as goal

pub returns-then-i-self : goal.returns-then-i-self
returns-then-i-self c =
    let z = c.args.self.now in
    next_by _ _ _ None (λ j l. is_beyond _ _ _ (omega (arith, made_length z.blocks.last (bays z), c.if-i-self.true)))

pub returns : goal.returns
returns c =
    let z = c.args.self.now in
    c.within.ensures ∙ ap (cut_at z.blocks.last) (c.first_from.ensures ∙ ap (first_place z c.args.sort) c.max.ensures) ∙ next_is z _ _
