-- What is left to show of `Zombit::unpack_mixed`.
use Rattle.std.proofs.Common.{◌≡◌, ℕ, ◌+◌, ◌-◌, ◌*◌, ◌≤◌, length, refl, sym, ap, ◌∙◌, suc-mul, mul-le-mul_right, arith}
use Rattle.std.proofs.Math.Nat.{add-mul}
use Rattle.zombit.specs.Meant.{M}
use Rattle.zombit.proofs.Indexed.{before_within, small_mixed, places_few}
use Rattle.zombit.proofs.Unpacked.{whole_new, whole_old, added_mixed, run_bits, run_bay}
use Rattle.zombit.proofs.index.Zombit.unpack_mixed.Goals as goal

pub overflow_mul-block : goal.overflow_mul-block
overflow_mul-block c =
    let z = c.args.self.now in
    omega (arith, mul-le-mul_right z.blocks.size c.mixed_to-block.ensures.within, places_few z, z.blocks.sized.1, z.blocks.blocked.1)

pub overflow_add-reached : goal.overflow_add-reached
overflow_add-reached c =
    let z = c.args.self.now in
    let e = c.mixed_to-block.ensures in
    omega (arith, c.max-from.ensures, c.requires.low, z.blocks.blocked.1, before_within z c.args.reached.block (omega (arith, c.requires.block)), small_mixed z, c.requires.bits)

pub overflow_sub-to : goal.overflow_sub-to
overflow_sub-to c =
    let z = c.args.self.now in
    omega (arith, mul-le-mul_right z.blocks.size c.mixed_to-block.ensures.more, suc-mul c.args.reached.block z.blocks.size, c.max-from.ensures, c.min-to.ensures, c.requires.low, c.requires.high, c.requires.order)

pub copy-requires-clause-within : goal.copy-requires-clause-within
copy-requires-clause-within c =
    let z = c.args.self.now in
    let e = c.mixed_to-block.ensures in
    let k = c.args.reached.block in
    let q = c.mixed_to-block.result in
    let order : k ≤ q = omega (arith, e.more) in
    let split : q ≡ k + (q - k) = omega (arith, e.more) in
    omega (
      arith,
      run_bits z k q order e.run,
      before_within z q e.within,
      ap (λ (x : ℕ). x * z.blocks.size) split ∙ add-mul k (q - k) z.blocks.size,
      c.max-from.ensures,
      c.min-to.ensures,
      c.requires.bits,
      c.requires.low,
      c.requires.high,
      mul-le-mul_right z.blocks.size e.more,
      suc-mul k z.blocks.size,
    )

pub overflow_mul-result : goal.overflow_mul-result
overflow_mul-result c =
    let z = c.args.self.now in
    let e = c.mixed_to-block.ensures in
    let k = c.args.reached.block in
    let q = c.mixed_to-block.result in
    omega (arith, run_bits z k q (omega (arith, e.more)) e.run, before_within z q e.within, small_mixed z)

pub overflow_add-result : goal.overflow_add-result
overflow_add-result c =
    let z = c.args.self.now in
    let e = c.mixed_to-block.ensures in
    let k = c.args.reached.block in
    let q = c.mixed_to-block.result in
    omega (arith, run_bits z k q (omega (arith, e.more)) e.run, before_within z q e.within, small_mixed z, c.requires.bits)

pub returns-clause-bits : goal.returns-clause-bits
returns-clause-bits c =
    let z = c.args.self.now in
    let e = c.mixed_to-block.ensures in
    omega (arith, run_bits z c.args.reached.block c.mixed_to-block.result (omega (arith, e.more)) e.run, c.requires.bits)

pub returns-clause-wrote : goal.returns-clause-wrote
returns-clause-wrote c there =
    let z = c.args.self.now in
    let a = c.requires in
    let e = c.mixed_to-block.ensures in
    let k = c.args.reached.block in
    let q = c.mixed_to-block.result in
    let n = 8 * length c.args.out.now in
    let order : k ≤ q = omega (arith, e.more) in
    let far = mul-le-mul_right z.blocks.size e.more in
    let one = suc-mul k z.blocks.size in
    let first = c.max-from.ensures in
    let last = c.min-to.ensures in
    whole_new _ _ c.args.out.now _ c.copy.ensures.long (c.copy.ensures.bits n _ c.args.out.now (omega arith) (whole_old _ _ there) (omega arith))
    (added_mixed z k (q * z.blocks.size) c.args.before c.args.end n (omega (arith, far, one)) (omega (arith, far, one, a.low)) a.high a.order a.end
    (k * z.blocks.size) c.max-from.result c.min-to.result refl c.max-from.ensures c.min-to.ensures c.args.reached.bits
    (λ b low high. run_bay z k q order e.run b low high ∙ ap (λ (x : ℕ). M z (x + (b - k * z.blocks.size))) (sym a.bits)))
