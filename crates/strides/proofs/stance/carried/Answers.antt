-- What is left to show of `carried`.
use Rattle.std.proofs.Common.{arith}
use Rattle.strides.proofs.Carried.{bits_last, past_last}
use Rattle.strides.proofs.stance.carried.Goals as goal

pub returns-clause-bits : goal.returns-clause-bits
returns-clause-bits c =
    let r = c.carrying_add-sum.result in
    bits_last c.args.own c.args.other c.args.was c.ranges.own.fits c.ranges.other.fits r.0 r.1 (omega arith) c.carrying_add-sum.ensures

pub returns-clause-past : goal.returns-clause-past
returns-clause-past c =
    let r = c.carrying_add-sum.result in
    past_last c.args.own c.args.other c.args.was c.ranges.own.fits c.ranges.other.fits r.0 r.1 (omega arith) c.carrying_add-sum.ensures
