-- What is left to show of `parting`.
use Rattle.std.proofs.Common.{◌≡◌, ℕ, ◌+◌, ◌-◌, ◌*◌, ◌/◌, ◌≤◌, mul-le-mul_left, ap, ◌∙◌, subst, sym, arith}
use Rattle.sets.specs.Packing.{digit_of}
use Rattle.sets.proofs.Packing.{digit_small}
use Rattle.list.proofs.Parted.{Within, three_more, all_asked, come_within}
use Rattle.list.proofs.quarters.parting.Goals as goal

pub loop-size-preserved : goal.loop-size-preserved
loop-size-preserved g c =
    let first = c.loop-size.first in
    let size = c.loop-size.size in
    let step = size / 4 in
    let one : c.from-one.result ≡ digit_of c.passes.result = c.from-one.ensures in
    let two : c.from-two.result ≡ digit_of c.passes-in-loop-size.result = c.from-two.ensures in
    let three : c.from-three.result ≡ digit_of c.passes-in-loop-size-2.result = c.from-three.ensures in
    let few : c.from-one.result + c.from-two.result + c.from-three.result ≤ 3 =
    omega (arith, one, two, three, digit_small c.passes.result, digit_small c.passes-in-loop-size.result, digit_small c.passes-in-loop-size-2.result) in
    let most : step * (c.from-one.result + c.from-two.result + c.from-three.result) ≤ step * 3 = mul-le-mul_left step few in
    let room = c.loop-size.invariant.0 in (
      omega (arith, room, most),
      λ p agree come.
          let e1 = one ∙ ap digit_of (agree (first + step) c.passes.result (omega (arith, room)) c.passes.ensures) in
          let e2 = two ∙ ap digit_of (agree (first + 2 * step) c.passes-in-loop-size.result (omega (arith, room)) c.passes-in-loop-size.ensures) in
          let e3 = three ∙ ap digit_of (agree (first + 3 * step) c.passes-in-loop-size-2.result (omega (arith, room)) c.passes-in-loop-size-2.ensures) in
          let e : c.from-one.result + c.from-two.result + c.from-three.result
          ≡ digit_of (p (first + step)) + digit_of (p (first + 2 * step)) + digit_of (p (first + 3 * step)) = omega (arith, e1, e2, e3) in
          subst (λ (n : ℕ). Within p 0 c.args.count come (first + step * n) (size - 3 * step)) (sym e)
          (three_more p 0 c.args.count come first size step (omega arith) (omega arith) (c.loop-size.invariant.1 p agree come)),
    )

pub returns : goal.returns
returns g c = λ p agree come.
    let w = c.loop-size.invariant.1 p agree come in
    let room = c.loop-size.invariant.0 in
    all_asked p 0 c.args.count come c.loop-size.first c.loop-size.size c.end_of_passing.result w
    (c.end_of_passing.ensures p (λ n b l h post. agree n b (omega (arith, room)) post) (come_within p 0 c.args.count come c.loop-size.first c.loop-size.size w))
