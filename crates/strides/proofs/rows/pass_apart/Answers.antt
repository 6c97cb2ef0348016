-- What is left to show of `pass_apart`.
use Rattle.std.proofs.Common.{◌≡◌, ℕ, ◌*◌, ◌/◌, refl, subst, arith}
use lib.Count.{ones}
use Rattle.bits.specs.Bits.{bit_at}
use Rattle.bits.specs.Words.{Holds}
use Rattle.bits.proofs.Held.{count_all}
use Rattle.sets.specs.Search.{count_to}
use Rattle.sets.proofs.Tests.{count_none, count_le}
use Rattle.strides.specs.Strides.{row_of, begins}
use Rattle.strides.proofs.Going.{going_apart}
use Rattle.strides.proofs.rows.pass_apart.Goals as goal

pub loop-passed-preserved : goal.loop-passed-preserved
loop-passed-preserved c =
    let inv = c.loop-passed.invariant in
    let w = c.loop-passed.passed in
    let x = c.whole_word-in_free.result in
    let y = c.whole_word-in_class.result in
    let at : 8 * (w.bits / 8) ≡ w.bits = omega (arith, inv.words) in
    let hx = subst (λ (p : ℕ). Holds (bit_at c.args.free.now) p 64 x) at c.whole_word-in_free.ensures in
    let hy = subst (λ (p : ℕ). Holds (bit_at c.args.class.now) p 64 y) at c.whole_word-in_class.ensures in
    let g = begins (row_of x) (row_of y) w.stance in
    let many : ones c.pass-starts.result.0 ≡ count_to g 64 = omega (arith, count_all g 0 64 c.pass-starts.result.0 c.pass-starts.ensures.starts, count_none g) in
    record {
      going = λ s first old out room going.
          going_apart (bit_at c.args.free.now) (bit_at c.args.class.now) s first c.args.left old w out (inv.going s first old out room going) _ x y (omega (arith, c.loop-passed-test.true))
          (omega (arith, room, inv.written)) hx hy c.if-in_free-in_class-ne0.false refl c.pass-starts.ensures.stance refl (omega (arith, many));
      written = inv.written;
      on = omega (arith, inv.on);
      more = omega (arith, c.loop-passed-test.true);
      words = omega (arith, inv.words);
      starts = omega (arith, inv.starts, many, count_le g 64);
    }
