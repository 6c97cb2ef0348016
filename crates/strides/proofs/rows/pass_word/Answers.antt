-- What is left to show of `pass_word`.
use Rattle.std.proofs.Common.{◌≡◌, ◌+◌, ◌-◌, min, length, ap, ◌∙◌, List, ℕ, arith}
use lib.Bits.{bit_and}
use lib.Count.{ones}
use Rattle.bits.proofs.Held.{count_part}
use Rattle.sets.specs.Lists.{over}
use Rattle.sets.specs.Search.{count_to}
use Rattle.sets.proofs.Tests.{count_none}
use Rattle.strides.specs.Strides.{row_of, begins}
use Rattle.strides.proofs.Numbering.{numbered_size}
use Rattle.strides.proofs.Passing.{both_numbered}
use Rattle.strides.proofs.rows.pass_word.Goals as goal

pub overflow_add-result-2 : goal.overflow_add-result-2
overflow_add-result-2 c =
    omega (arith, c.write_ones-written.ensures.many, numbered_size (row_of (bit_and c.args.free c.args.class)) (c.args.first + c.args.passed.bits) 64)

pub returns-clause-writes : goal.returns-clause-writes
returns-clause-writes c =
    c.write_ones-written.ensures.writes ∙ ap (λ (xs : List ℕ). over xs c.args.out.now) (both_numbered c.args.free c.args.class (c.args.first + c.args.passed.bits))

pub returns-clause-written : goal.returns-clause-written
returns-clause-written c =
    ap (λ (n : ℕ). c.args.passed.written + n) (c.write_ones-written.ensures.many ∙ ap length (both_numbered c.args.free c.args.class (c.args.first + c.args.passed.bits)))

pub returns-clause-starts : goal.returns-clause-starts
returns-clause-starts c =
    let g = begins (row_of c.args.free) (row_of c.args.class) c.args.passed.stance in
    let k = min (c.args.left - c.args.passed.bits) 64 in
    let e : 0 + k ≡ k = omega arith in
    omega (
      arith,
      count_part g 0 64 c.pass-starts.result.0 k c.pass-starts.ensures.starts (omega arith),
      count_none g,
      ap (count_to g) e,
      ap ones c.front.ensures,
    )
