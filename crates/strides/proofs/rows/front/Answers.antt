-- What is left to show of `front`.
use Rattle.std.proofs.Common.{◌-◌, ◌≡◌, ◌%◌, ◌^◌, min, ap, ◌∙◌, arith}
use Rattle.bits.proofs.Digits.{front_mask}
use Rattle.strides.proofs.rows.front.Goals as goal

pub returns : goal.returns
returns c =
    let n = c.min.result in
    let e : n ≡ min c.args.n 64 = omega (arith, c.min.ensures) in
    front_mask c.args.word 64 (64 - n) n (omega (arith, e)) ∙ ap (λ k. c.args.word % 2 ^ k) e
