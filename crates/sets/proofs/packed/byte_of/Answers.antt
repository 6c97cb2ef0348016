-- What is left to show of `byte_of`.
use Rattle.std.proofs.Common.{◌≡◌, ◌+◌, ◌-◌, ◌≤◌, sym, ap, ◌∙◌, arith}
use Rattle.sets.specs.Packing.{digit_of}
use Rattle.sets.proofs.Packing.{digit_small, value_none, value_eight, value_below, value_fits}
use Rattle.sets.proofs.packed.byte_of.Goals as goal

pub overflow_mul-byte : goal.overflow_mul-byte
overflow_mul-byte g c = omega (arith, value_fits c.loop-j.j c.loop-j.byte (omega arith) c.loop-j.invariant.0 c.loop-j.invariant.1)

pub loop-j-init : goal.loop-j-init
loop-j-init g c = (omega arith, omega arith, λ f agree. sym (value_none f 8))

pub loop-j-preserved : goal.loop-j-preserved
loop-j-preserved g c =
    let k = c.loop-j.j in
    let h = c.loop-j.invariant in
    let digit : c.from.result ≡ digit_of c.row.result = c.from.ensures in
    let low : 1 ≤ k = omega arith in (
      omega arith,
      value_below k c.loop-j.byte c.from.result low h.0 h.1 (omega (arith, digit, digit_small c.row.result)),
      λ f agree. value_eight f k c.loop-j.byte c.from.result low h.0 (h.2 f agree) (digit ∙ ap digit_of (agree (k - 1 + 1) c.row.result (omega arith) (omega arith) c.row.ensures)),
    )
