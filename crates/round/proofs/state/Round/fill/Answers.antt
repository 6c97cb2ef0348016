-- What is left to show of `Round::fill`.
use Rattle.std.proofs.Common.{sym, ap, ◌∙◌, arith}
use lib.Seq.{set-get_or}
use Rattle.round.proofs.Rounds.{next_on}
use Rattle.round.proofs.Sheeting.{going_more, done_none, done_full}
use Rattle.round.proofs.state.Round.fill.Goals as goal

pub loop-slot-preserved : goal.loop-slot-preserved
loop-slot-preserved g c =
    let inv = c.loop-slot.invariant in
    let got = c.next.ensures in
    let on = next_on c.args.self.now c.loop-slot.self c.next.new.self _ inv.0 got.step got.state got.sets in
    (on.sets, going_more _ _ _ _ _ _ _ _ _ (omega arith) (sym c.in-Some.is ∙ ap (λ t. t.bay) on.step) on.state inv.1)

pub returns-after-loop-slot : goal.returns-after-loop-slot
returns-after-loop-slot g c =
    let inv = c.loop-slot.invariant in
    let d = done_full _ _ _ _ _ _ _ (omega (arith, inv.1.size)) inv.1 in
    record { writes = d.writes; state = d.state; sets = inv.0 }

pub returns-in_default : goal.returns-in_default
returns-in_default g c =
    let inv = c.loop-slot.invariant in
    let got = c.next.ensures in
    let on = next_on c.args.self.now c.loop-slot.self c.next.new.self _ inv.0 got.step got.state got.sets in
    let d = done_none _ _ _ _ _ _ _ _ (omega (arith, c.loop-slot-test.true)) (sym c.in_default.is ∙ ap (λ t. t.bay) on.step) on.state inv.1 in
    record { writes = set-get_or c.loop-slot.out c.loop-slot.slot-index 0 ∙ d.writes; state = d.state; sets = on.sets }
