-- What is left to show of `PioneerTold::of`.
use Rattle.std.proofs.Common.{◌≡◌, length, arith}
use Rattle.sets.proofs.Packing.{pack_length}
use Rattle.pioneer.specs.Filling.{begins, ends, count_of, starts_part, sums_part}
use Rattle.pioneer.proofs.told.PioneerTold.of.Goals as goal

pub returns : goal.returns
returns g c =
    let s = g.S.Walking.meant c.args.set.now in
    let starts : c.div_ceil.result ≡ length (starts_part s) = omega (arith, c.div_ceil.ensures, c.last-last.ensures, pack_length (length s) (begins s)) in
    let sums : c.div_ceil-2.result ≡ length (sums_part s) = omega (arith, c.div_ceil-2.ensures, c.count_members-count.ensures, pack_length (count_of s) (ends s)) in
    λ i. record { last = c.last-last.ensures i; count = c.count_members-count.ensures i; starts = starts i; sums = sums i }
