-- What is left to show of `copy_words`.
use Rattle.std.proofs.Common.{◌≡◌, ℕ, ◌+◌, ◌*◌, ◌||◌, ap, subst, ◌∙◌, arith}
use Rattle.bits.specs.Bits.{bit_at}
use Rattle.bits.specs.Rows.{moved}
use Rattle.bits.specs.Words.{Holds}
use Rattle.bits.proofs.Laid.{moved_on, moved_whole}
use Rattle.bits.proofs.copying.copy_words.Goals as goal

pub loop-w-preserved : goal.loop-w-preserved
loop-w-preserved c =
    let row = bit_at c.args.from.now in
    let p = 8 * c.args.k in
    let q = 8 * c.args.j + c.args.s in
    let w = c.loop-w.w in
    let kept = c.loop-w.invariant in
    let on : 8 * (c.args.j + 8 * w) + c.args.s ≡ q + 64 * w = omega arith in
    let held : Holds row (q + 64 * w) 64 c.across.result = subst (λ (b : ℕ). Holds row b 64 c.across.result) on c.across.ensures in (
      omega (arith, c.lay_whole.ensures.long, kept.0),
      λ i one within.
          c.lay_whole.ensures.ones i one (omega (arith, kept.0))
          ∙ ap (λ b. b || bit_at c.loop-w.bytes i) (moved_whole row (c.args.k + 8 * w) (p + 64 * w) (q + 64 * w) c.across.result i (omega arith) held)
          ∙ ap (λ b. moved (p + 64 * w) 64 row (q + 64 * w) i || b) (kept.1 i one within)
          ∙ moved_on p (64 * w) 64 (64 * (w + 1)) row q i _ (omega arith),
    )
