-- What is left to show of `pass_rows`.
use Rattle.std.proofs.Common.{◌≡◌, ℕ, ◌+◌, ◌*◌, ◌/◌, ◌≤◌, length, refl, subst, arith}
use Rattle.bits.specs.Bits.{bit_at}
use Rattle.bits.specs.Words.{Holds}
use Rattle.strides.specs.Passage.{Passage}
use Rattle.strides.proofs.Going.{going_start, written_few, starts_few, going_on}
use Rattle.strides.proofs.rows.pass_rows.Goals as goal
use Rattle.strides.proofs.rows.pass_rows.Goals.{After-pass_apart-passed}

-- behind the words of which no bit is in both rows
apart : (c : After-pass_apart-passed) → Passage (bit_at c.args.free.now) (bit_at c.args.class.now) c.args.stance c.args.first c.args.left c.args.out.now c.pass_apart-passed.result c.loop-passed.out
apart c = c.pass_apart-passed.ensures.going c.args.stance c.args.first c.args.out.now c.loop-passed.out (omega arith) c.loop-passed.invariant

within : (c : After-pass_apart-passed) → (c.pass_apart-passed.result.bits / 8 + 8 ≤ length c.args.free.now) × (c.pass_apart-passed.result.bits / 8 + 8 ≤ length c.args.class.now)
within c =
    let more = c.pass_apart-passed.ensures.more in
    let words = (apart c).words in
    (omega (arith, more, words, c.requires.free, c.requires.whole.0), omega (arith, more, words, c.requires.class, c.requires.whole.1))

pub loop-passed-init : goal.loop-passed-init
loop-passed-init c = going_start _ _ _ _ _ _

pub pass_apart-passed-requires-clause-starts : goal.pass_apart-passed-requires-clause-starts
pass_apart-passed-requires-clause-starts c = starts_few _ _ _ _ _ _ _ _ c.loop-passed.invariant

pub whole_word-requires : goal.whole_word-requires
whole_word-requires c = record { within = (within (goal.at.whole_word-requires c).After-pass_apart-passed).0 }

pub whole_word-requires-in-loop-passed : goal.whole_word-requires-in-loop-passed
whole_word-requires-in-loop-passed c = record { within = (within (goal.at.whole_word-requires-in-loop-passed c).After-pass_apart-passed).1 }

pub pass_word-passed-requires-clause-written : goal.pass_word-passed-requires-clause-written
pass_word-passed-requires-clause-written c =
    written_few _ _ _ _ _ _ _ _ (apart (goal.at.pass_word-passed-requires-clause-written c).After-pass_apart-passed)

pub pass_word-passed-requires-clause-starts : goal.pass_word-passed-requires-clause-starts
pass_word-passed-requires-clause-starts c =
    starts_few _ _ _ _ _ _ _ _ (apart (goal.at.pass_word-passed-requires-clause-starts c).After-pass_apart-passed)

pub loop-passed-smaller : goal.loop-passed-smaller
loop-passed-smaller c = omega (arith, c.pass_apart-passed.ensures.on, c.pass_apart-passed.ensures.more, c.pass_word-passed.ensures.bits)

pub loop-passed-preserved : goal.loop-passed-preserved
loop-passed-preserved c =
    let on = c.pass_word-passed.ensures in
    let before = apart (goal.at.loop-passed-preserved c).After-pass_apart-passed in
    let w = c.pass_apart-passed.result in
    let at : 8 * (w.bits / 8) ≡ w.bits = omega (arith, before.words) in
    let hx = subst (λ (p : ℕ). Holds (bit_at c.args.free.now) p 64 c.whole_word.result) at c.whole_word.ensures in
    let hy = subst (λ (p : ℕ). Holds (bit_at c.args.class.now) p 64 c.whole_word-in-loop-passed.result) at c.whole_word-in-loop-passed.ensures in
    going_on _ _ _ _ _ _ _ _ before _ _ _ _ _ c.pass_apart-passed.ensures.more (omega (arith, c.pass_apart-passed.ensures.written)) hx hy on.bits on.stance refl on.writes on.written on.starts

pub returns-else-out-passed-ge64-clause-some : goal.returns-else-out-passed-ge64-clause-some
returns-else-out-passed-ge64-clause-some c = λ l room.
    omega (arith, c.loop-passed.invariant.words, c.loop-passed.invariant.size, written_few _ _ _ _ _ _ _ _ c.loop-passed.invariant)
