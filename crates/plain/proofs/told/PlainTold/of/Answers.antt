-- What is left to show of `PlainTold::of`.
use Rattle.std.proofs.Common.{◌≡◌, length, arith}
use Rattle.sets.specs.Sets.{is_member}
use Rattle.sets.proofs.Packing.{pack_length}
use Rattle.plain.specs.Filling.{bits_of}
use Rattle.plain.proofs.told.PlainTold.of.Goals as goal

pub returns : goal.returns
returns g c =
    let s = g.S.Walking.meant c.args.set.now in
    let bits : c.div_ceil.result ≡ length (bits_of s) = omega (arith, c.div_ceil.ensures, c.last-last.ensures, pack_length (length s) (is_member s)) in
    λ i. record { last = c.last-last.ensures i; bits = bits i }
