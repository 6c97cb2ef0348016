-- What is left to show of `place_in_word`.
use Rattle.std.proofs.Common.{suc, arith}
use lib.Count.{count_trailing_zeros}
use Rattle.bits.proofs.Lowest.{nth_left}
use Rattle.bits.proofs.selecting.place_in_word.Goals as goal

pub loop-preserved : goal.loop-preserved
loop-preserved c =
    let kept = c.loop.invariant in
    let nth = nth_left c.args.w kept.0 c.loop.counter c.loop.left c.ranges.w.fits kept.1.0 kept.1.1 (omega arith) in
    (suc (count_trailing_zeros 64 c.loop.left), (nth.3, omega (arith, nth.4)))

pub returns : goal.returns
returns c =
    let kept = c.loop.invariant in
    let nth = nth_left c.args.w kept.0 c.args.k c.loop.left c.ranges.w.fits kept.1.0 (omega (arith, kept.1.1)) c.requires.within in
    record { below = nth.0; hit = nth.1; kth = nth.2 }
