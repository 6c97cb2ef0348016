-- What is left to show of `PlainWalking::bits`.
use Rattle.std.proofs.Common.{◌≡◌, ℕ, ◌+◌, ◌*◌, ◌/◌, length, ap, ◌∙◌, arith}
use Rattle.bits.specs.Bits.{bit_at}
use Rattle.sets.specs.Packing.{pack}
use Rattle.plain.proofs.Packed.{after_bits}
use Rattle.plain.proofs.asks.PlainWalking.bits.Goals as goal

pub returns-then-before-eq0 : goal.returns-then-before-eq0
returns-then-before-eq0 c =
    let self = c.args.self.now in
    let n = 8 * length c.args.out.now in
    let whole : 8 * (c.args.before / 8) ≡ c.args.before = omega arith in
    c.copy_bytes.ensures
    ∙ ap (λ (b : ℕ). pack n (λ i. bit_at self.bits.now (b + i))) whole
    ∙ after_bits self.last self.bits.now n c.args.before self.clear

pub returns-else-before-eq0 : goal.returns-else-before-eq0
returns-else-before-eq0 c =
    let self = c.args.self.now in
    c.copy_bits.ensures ∙ after_bits self.last self.bits.now _ c.args.before self.clear
