-- What is left to show of `take_rows`.
use Rattle.std.proofs.Common.{arith}
use Rattle.round.proofs.Rounds.{next_on}
use Rattle.listing.proofs.Playing.{going_more, done_none, done_full}
use Rattle.listing.proofs.rows.take_rows.Goals as goal

pub returns-then-is_none : goal.returns-then-is_none
returns-then-is_none g c =
    let inv = c.loop-n.invariant in
    let got = c.next.ensures in
    let on = next_on c.args.round.now c.loop-n.round c.next.new.self _ inv.0 got.step got.state got.sets in
    let d = done_none _ _ _ _ _ _ _ _ _ (omega arith) on.step on.state inv.1 c.if-is_none.ensures in
    record { answer = d.counts; writes = d.writes; state = d.state }

pub loop-n-preserved : goal.loop-n-preserved
loop-n-preserved g c =
    let inv = c.loop-n.invariant in
    let got = c.next.ensures in
    let on = next_on c.args.round.now c.loop-n.round c.next.new.self _ inv.0 got.step got.state got.sets in
    (on.sets, going_more _ _ _ _ _ _ _ _ _ (omega arith) on.step on.state inv.1 c.if-is_none.ensures)

pub returns : goal.returns
returns g c =
    let inv = c.loop-n.invariant in
    let d = done_full _ _ _ _ _ _ _ (omega (arith, inv.1.size)) inv.1 in
    record { answer = omega (arith, d.counts, inv.1.size); writes = d.writes; state = d.state }
