-- What is left to show of `Pioneer::unpack`.
use Rattle.std.proofs.Common.{◌≡◌, ◌+◌, ◌*◌, ◌<◌, length, ◌∙◌, subst, arith}
use Rattle.bits.specs.Words.{Holds}
use Rattle.sets.specs.Packing.{member_after}
use Rattle.pioneer.specs.Found.{WalkedTo}
use Rattle.pioneer.proofs.Answered.{meant}
use Rattle.pioneer.proofs.Packed.{word_after, word_none, all_front}
use Rattle.pioneer.proofs.index.Pioneer.unpack.Goals as goal
use Rattle.pioneer.proofs.index.Pioneer.unpack.Goals.{then-base-self, else-base-self}

pub loop-w-preserved : goal.loop-w-preserved
loop-w-preserved c =
    let p = c.args.self.now in
    let inv = c.loop-w.invariant in
    let to = c.saturating_add-base.result in
    let walk = c.if-base-self.walk in
    let step : Holds (member_after (meant p) c.args.before) (64 * c.loop-w.w) 64 c.if-base-self.x × (walk.sums.bytes.now ≡ p.sums.now) × (to < p.last → WalkedTo p to walk.sums.place walk.behind) = elim c.if-base-self.branch [
      | then-base-self b ↦ rw (b.walk-is, b.x-is) (
        word_after p c.args.before c.loop-w.base c.loop-w.w _ (omega (arith, inv.passed, p.sized.1)) b.word-x.ensures.bits,
        b.word-x.ensures.rows,
        λ l. let on : c.loop-w.base + 64 ≡ to = omega (arith, c.saturating_add-base.ensures, p.sized.1) in subst (λ i. WalkedTo p i b.word-x.new.walk.sums.place b.word-x.new.walk.behind) on b.word-x.ensures.walked,
      )
      | else-base-self b ↦ rw (b.walk-is, b.x-is) (
        word_none p c.args.before c.loop-w.w (omega (arith, inv.passed)),
        inv.rows,
        λ l. absurd (omega (arith, c.saturating_add-base.ensures, p.sized.1)),
      )
    ] in
    record {
      long = c.put_word.ensures.long ∙ inv.long;
      passed = omega (arith, c.saturating_add-base.ensures, inv.passed);
      rows = step.1;
      walked = step.2;
      front = λ j l within. c.put_word.ensures.front (member_after (meant p) c.args.before) step.0 inv.front j (omega arith) within;
    }

pub returns : goal.returns
returns c =
    all_front _ (8 * c.loop-w.w) (length c.args.out.now) c.loop-w.out c.loop-w.invariant.long (omega (arith, c.loop-w-test.false, c.div_ceil-w-end.ensures)) c.loop-w.invariant.front
