-- What is left to show of `Round::walk`.
use Rattle.std.proofs.Common.{sym, ◌∙◌, arith}
use Rattle.round.specs.Rounds.{free_of, class_of}
use Rattle.round.proofs.Walks.{rest_end, rest_start, step_here, step_on}
use Rattle.round.proofs.Taking.{fewest_at}
use Rattle.round.proofs.Handing.{handed_at}
use Rattle.round.proofs.state.Round.walk.Goals as goal

pub loop-p-init : goal.loop-p-init
loop-p-init g c = (omega (arith, c.args.self.now.ok), omega arith, rest_start _ _ _)

pub returns-then-m-p : goal.returns-then-m-p
returns-then-m-p g c =
    let r = c.args.self.now in
    let is = step_here (free_of r) (class_of r) _ _ c.loop-p.n (omega arith) c.stretch_end-m.ensures c.if-m-p.true ∙ c.loop-p.invariant.2 in
    record {
      is = is;
      first = handed_at _ _ _ _ is;
      fewest = fewest_at _ _ _ _ r.ok.0 is;
      bays = omega arith;
      handed = omega arith;
      within = omega arith;
    }

pub loop-p-smaller : goal.loop-p-smaller
loop-p-smaller g c =
    let r = c.args.self.now in
    omega (arith, (step_on (free_of r) (class_of r) _ _ c.loop-p.n (omega arith) c.stretch_end-m.ensures c.if-m-p.false).0)

pub loop-p-preserved : goal.loop-p-preserved
loop-p-preserved g c =
    let r = c.args.self.now in
    let on = step_on (free_of r) (class_of r) _ _ c.loop-p.n (omega arith) c.stretch_end-m.ensures c.if-m-p.false in
    (omega (arith, on.1), omega (arith, on.0), on.2 ∙ c.loop-p.invariant.2)

pub returns : goal.returns
returns g c =
    let r = c.args.self.now in
    let is = sym (rest_end (free_of r) (class_of r) c.loop-p.p c.loop-p.n (omega arith)) ∙ c.loop-p.invariant.2 in
    record {
      is = is;
      first = handed_at _ _ _ _ is;
      fewest = fewest_at _ _ _ _ r.ok.0 is;
      bays = omega arith;
      handed = omega arith;
      within = omega arith;
    }
