-- What is left to show of `stride`.
use Rattle.std.proofs.Common.{arith}
use Rattle.round.specs.Rounds.{free_of, class_of}
use Rattle.round.proofs.Bay.{ends_top}
use Rattle.round.proofs.state.Round.stride.Goals as goal

pub invariant_of-self : goal.invariant_of-self
invariant_of-self g c =
    let r = c.args.self.now in
    let pace = c.pass_blocks-pace in
    let top = ends_top (free_of r) (class_of r) pace.result.stance pace.result.bay in
    let place = c.under_way-place.ensures in
    record {
      ok = (
        omega (arith, r.ok.0, pace.ensures.far, place),
        omega (arith, top, place),
        omega (arith, r.ok.2, pace.ensures.few),
        omega (arith, r.ok.3, pace.ensures.far, place),
      );
    }
