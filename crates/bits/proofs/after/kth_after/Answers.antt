-- What is left to show of `kth_after`.
use Rattle.std.proofs.Common.{◌≡◌, ◌+◌, ◌*◌, None, ap, ◌∙◌, inr, arith}
use Rattle.sets.specs.Search.{count_to}
use Rattle.sets.proofs.Tests.{count_mono, kth_by}
use Rattle.bits.specs.Bits.{is_bit}
use Rattle.bits.proofs.Held.{count_all, kth_in, up_kth}
use Rattle.bits.proofs.after.kth_after.Goals as goal

pub loop-w-init : goal.loop-w-init
loop-w-init c = let none : c.args.from + 64 * 0 ≡ c.args.from = omega arith in (omega arith, ap (λ x. count_to (is_bit c.args.bytes.now c.args.sort) x + c.args.k) none)

pub returns-then-left-n : goal.returns-then-left-n
returns-then-left-n c =
    let place = c.place_in_word.ensures in
    let q = c.args.from + 64 * c.loop-w.w + 1 + c.place_in_word.result in
    let here = kth_in _ _ 64 _ _ q c.row_of-v.ensures place.below place.hit (omega arith) in
    c.at_most.ensures ∙ up_kth _ _ c.args.last _ (omega arith) here.0 (omega (arith, here.1, place.kth))

pub loop-w-preserved : goal.loop-w-preserved
loop-w-preserved c =
    let e : c.args.from + 64 * c.loop-w.w + 64 ≡ c.args.from + 64 * (c.loop-w.w + 1) = omega arith in
    (omega arith, omega (arith, count_all _ _ 64 _ c.row_of-v.ensures, ap (count_to (is_bit c.args.bytes.now c.args.sort)) e))

pub returns : goal.returns
returns c = kth_by _ _ _ None (inr (omega (arith, count_mono (is_bit c.args.bytes.now c.args.sort) c.args.last (c.args.from + 64 * c.loop-w.w) (omega arith))))
