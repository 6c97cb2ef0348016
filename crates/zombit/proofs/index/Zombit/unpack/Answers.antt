-- What is left to show of `Zombit::unpack`.
use Rattle.std.proofs.Common.{ℕ, ◌+◌, ◌*◌, ◌/◌, ◌≤◌, min, leb, ◌&&◌, length, refl, ap, ◌∙◌, mod-lt, mul-le-mul_right, arith}
use Rattle.std.proofs.lemmas.Grind.{div_ceil_times}
use Rattle.sets.specs.Packing.{pack, member_after}
use Rattle.zombit.specs.Meant.{meaning}
use Rattle.zombit.proofs.Indexed.{some_size}
use Rattle.zombit.proofs.Places.{place, block_in}
use Rattle.zombit.proofs.Unpacked.{row_begun, row_done}
use Rattle.zombit.proofs.index.Zombit.unpack.Goals as goal

pub loop-reached-init : goal.loop-reached-init
loop-reached-init c =
    let z = c.args.self.now in
    let whole = place z.blocks.size c.args.before in
    let small = mod-lt c.args.before (some_size z) in
    let inside = block_in z.blocks.last z.blocks.size (c.args.before / z.blocks.size) (some_size z) (omega (arith, whole, c.requires.within)) in
    record {
      within = omega (arith, inside);
      bits = c.bits_before-bits.ensures.value;
      low = omega (arith, whole, small);
      long = refl;
      wrote = c.requires.clear ∙ row_begun z c.args.before (8 * length c.args.out.now) _ (omega (arith, whole));
    }

pub returns : goal.returns
returns c =
    let z = c.args.self.now in
    let n = 8 * length c.args.out.now in
    let last = c.min-end.result in
    let inv = c.loop-reached.invariant in
    let all = div_ceil_times last z.blocks.size (some_size z) in
    let reach = mul-le-mul_right z.blocks.size c.loop-reached-test.false in
    let count = ap (λ (x : ℕ). x * z.blocks.size) c.div_ceil-past.ensures in
    let end : min z.blocks.last (c.args.before + n) ≤ c.loop-reached.reached.block * z.blocks.size = omega (arith, all.0, reach, count, z.blocks.sized.1) in
    inv.wrote
    ∙ ap (λ (m : ℕ). pack (8 * m) (λ j. leb (c.args.before + j) (c.loop-reached.reached.block * z.blocks.size) && member_after (meaning z) c.args.before j)) inv.long
    ∙ row_done z c.args.before n (c.loop-reached.reached.block * z.blocks.size) end
