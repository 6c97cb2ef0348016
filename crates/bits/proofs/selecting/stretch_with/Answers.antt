-- What is left to show of `stretch_with`.
use Rattle.std.proofs.Common.{◌≡◌, ◌+◌, ◌*◌, ap, arith}
use Rattle.sets.specs.Search.{count_to}
use Rattle.sets.proofs.Tests.{count_none}
use Rattle.bits.specs.Bits.{bit_at, is_bit}
use Rattle.bits.proofs.Sorts.{share_more}
use Rattle.bits.proofs.selecting.stretch_with.Goals as goal

pub loop-s-init : goal.loop-s-init
loop-s-init c = (omega arith, omega (arith, count_none (is_bit c.args.bytes.now c.args.sort)))

pub loop-s-preserved : goal.loop-s-preserved
loop-s-preserved c =
    let f = bit_at c.args.bytes.now in
    let s = c.loop-s.s in
    let start : 64 * (8 * s) ≡ 512 * s = omega arith in
    let end : 64 * (8 * s + 8) ≡ 512 * (s + 1) = omega arith in
    let ones : count_to f (512 * (s + 1)) ≡ count_to f (512 * s) + c.ones_in_words.result = omega (arith, c.ones_in_words.ensures, ap (count_to f) start, ap (count_to f) end) in
    (omega arith, omega (arith, share_more f c.args.sort (512 * s) (512 * (s + 1)) 512 _ (omega arith) ones, c.share-here.ensures))
