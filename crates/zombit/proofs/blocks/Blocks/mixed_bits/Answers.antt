-- What is left to show of `Blocks::mixed_bits`.
use Rattle.std.proofs.Common.{◌≡◌, ℕ, ◌-◌, ◌*◌, ap, arith}
use Rattle.sets.proofs.Tests.{count_others}
use Rattle.bits.specs.Bits.{bit_at}
use Rattle.zombit.specs.Blocks.{mixed_before}
use Rattle.zombit.proofs.blocks.Blocks.mixed_bits.Goals as goal

pub returns-clause-value : goal.returns-clause-value
returns-clause-value c =
    let U = bit_at c.args.uniform.now in
    let mixed : c.args.k - c.ones.result ≡ mixed_before U c.args.k = omega (arith, c.ones.ensures.value, count_others U c.args.k) in
    ap (λ (n : ℕ). n * c.args.self.size) mixed
