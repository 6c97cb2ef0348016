-- What is left to show of `under_way`.
use Rattle.std.proofs.Common.{◌≡◌, suc, min, sym, ◌∙◌, arith}
use Rattle.std.proofs.lemmas.Bool.{cond-true, cond-false}
use Rattle.round.specs.Strides.{ends_at}
use Rattle.round.specs.Rounds.{last_bay}
use Rattle.round.proofs.state.Round.under_way.Goals as goal

pub returns-then-stance : goal.returns-then-stance
unfolding ends_at
returns-then-stance g c =
    let at : c.min.result ≡ min c.args.bay (suc (last_bay c.args.self.now)) = omega (arith, c.min.ensures, c.requires.last) in
    at ∙ sym (cond-true _ _ _ c.if-stance.true)

pub returns-then-stance-2 : goal.returns-then-stance-2
unfolding ends_at
returns-then-stance-2 g c = rw c.requires.last at c.next_within.ensures ∙ sym (cond-false _ _ _ c.if-stance.false ∙ cond-true _ _ _ c.if-stance-2.true)

pub returns-then-stance-3 : goal.returns-then-stance-3
unfolding ends_at
returns-then-stance-3 g c =
    rw c.requires.last at c.next_within-then-stance-3.ensures
    ∙ sym (cond-false _ _ _ c.if-stance.false ∙ cond-false _ _ _ c.if-stance-2.false ∙ cond-true _ _ _ c.if-stance-3.true)

pub returns-else-stance-3 : goal.returns-else-stance-3
unfolding ends_at
returns-else-stance-3 g c =
    c.stretch_end.ensures ∙ sym (cond-false _ _ _ c.if-stance.false ∙ cond-false _ _ _ c.if-stance-2.false ∙ cond-false _ _ _ c.if-stance-3.false)
