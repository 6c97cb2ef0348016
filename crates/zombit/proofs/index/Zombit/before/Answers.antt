-- What is left to show of `Zombit::before`.
use Rattle.std.proofs.Common.{ℕ, ◌*◌, ap, arith}
use Rattle.zombit.proofs.Counted.{bits_marked}
use Rattle.zombit.proofs.index.Zombit.before.Goals as goal

pub overflow_sub-full : goal.overflow_sub-full
overflow_sub-full c =
    let z = c.args.self.now in
    omega (arith, ap (λ (n : ℕ). n * z.blocks.size) c.ones.ensures.value, bits_marked z c.args.k c.requires.block, c.bits_before-bits.ensures.value)

pub returns-clause-full : goal.returns-clause-full
returns-clause-full c =
    let z = c.args.self.now in
    omega (arith, ap (λ (n : ℕ). n * z.blocks.size) c.ones.ensures.value, bits_marked z c.args.k c.requires.block, c.bits_before-bits.ensures.value)
