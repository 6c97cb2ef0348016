-- What is left to show of `has_member_past`.
use Rattle.std.proofs.Common.{◌*◌, sym, ap, ◌∙◌, arith}
use Rattle.bits.specs.Bits.{bit_at}
use Rattle.zombit.proofs.Passes.{past_few}
use Rattle.zombit.proofs.Room.{mixed_few}
use Rattle.zombit.proofs.checks.has_member_past.Goals as goal

pub overflow_sub-bits : goal.overflow_sub-bits
overflow_sub-bits c =
    let b = c.args.blocks in
    let U = bit_at c.args.uniform.now in
    let few = past_few b.last b.size U (omega (arith, b.blocked.0)) b.sized.0 (bit_at c.args.mixed.now) (ap U (sym c.count-count.ensures) ∙ sym c.if-not-get.ensures) in
    let places = ap (λ n. n * b.size) c.count-count.ensures in
    omega (arith, few, places, c.requires.bits)

pub has-requires-clause-within : goal.has-requires-clause-within
has-requires-clause-within c =
    let b = c.args.blocks in
    let U = bit_at c.args.uniform.now in
    let few = past_few b.last b.size U (omega (arith, b.blocked.0)) b.sized.0 (bit_at c.args.mixed.now) (ap U (sym c.count-count.ensures) ∙ sym c.if-not-get.ensures) in
    let places = ap (λ n. n * b.size) c.count-count.ensures in
    omega (arith, few, places, c.requires.bits, c.requires.mixed)

pub has-requires-clause-small : goal.has-requires-clause-small
has-requires-clause-small c =
    let b = c.args.blocks in
    omega (arith, mixed_few b.size (bit_at c.args.uniform.now) b.last (omega (arith, b.blocked.0)), c.requires.mixed, b.sized.1, b.blocked.1)
