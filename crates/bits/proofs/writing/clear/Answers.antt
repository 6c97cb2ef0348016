-- What is left to show of `clear`.
use Rattle.std.proofs.Common.{◌≡◌, arith}
use Rattle.sets.specs.Packing.{bytes_for}
use Rattle.bits.proofs.Fronts.{over_none}
use Rattle.bits.proofs.writing.clear.Goals as goal

pub returns : goal.returns
returns c =
    let long : c.div_ceil.result ≡ bytes_for c.args.n = omega (arith, c.div_ceil.ensures) in
    over_none c.args.n c.div_ceil.result c.fill.new.self c.args.bytes.now long (omega arith) (c.fill.ensures.after (λ y e. e))
