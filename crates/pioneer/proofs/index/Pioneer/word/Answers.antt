-- What is left to show of `Pioneer::word`.
use Rattle.std.proofs.Common.{◌≡◌, ◌-◌, refl, sym, ◌∙◌, arith}
use Rattle.std.proofs.lemmas.Nat.{and_le_r}
use Rattle.pioneer.proofs.Taking.{next_of_row}
use Rattle.pioneer.proofs.Unpacking.{inside_first, inside_last, next_sum, inside_next}
use Rattle.pioneer.proofs.index.Pioneer.word.Goals as goal

pub loop-left-init : goal.loop-left-init
loop-left-init c = record {
  inside = inside_first c.args.self.now c.args.base _ _ _ _ (omega (arith, c.requires.within)) c.row-left.ensures c.stretch-word.ensures c.requires.walked;
  rows = c.requires.rows;
}

pub overflow_sub-walk : goal.overflow_sub-walk
overflow_sub-walk c =
    let p = c.args.self.now in
    let inv = c.loop-left.invariant in
    let found = next_of_row p.sums.now c.loop-left.walk.sums.bytes.now p.count c.loop-left.walk.sums.place _ c.next.result (inv.rows, refl) p.whole.1 p.clear.1 c.next.ensures.found in
    let next = next_sum p inv.inside (omega arith) _ refl c.next.result c.unwrap_or-sum.result found c.unwrap_or-sum.ensures in
    omega (arith, next.0)

pub loop-left-smaller : goal.loop-left-smaller
loop-left-smaller c = omega (arith, and_le_r c.loop-left.left (c.loop-left.left - 1))

pub loop-left-preserved : goal.loop-left-preserved
loop-left-preserved c =
    let p = c.args.self.now in
    let inv = c.loop-left.invariant in
    let found = next_of_row p.sums.now c.loop-left.walk.sums.bytes.now p.count c.loop-left.walk.sums.place _ c.next.result (inv.rows, refl) p.whole.1 p.clear.1 c.next.ensures.found in
    let next = next_sum p inv.inside (omega arith) _ refl c.next.result c.unwrap_or-sum.result found c.unwrap_or-sum.ensures in
    let place : c.next.new.self.place ≡ c.unwrap_or-sum.result = c.next.ensures.place ∙ sym c.unwrap_or-sum.ensures in
    let on = inside_next p inv.inside (omega arith) _ refl c.unwrap_or-sum.result next.0 next.2 _ refl _ c.stretch-word-in-loop-left.ensures in
    record {
      inside = rw place on;
      rows = c.next.ensures.bytes ∙ inv.rows;
    }

pub returns-clause-bits : goal.returns-clause-bits
returns-clause-bits c = (inside_last c.args.self.now c.args.base _ _ _ _ (omega (arith, c.loop-left-test.false)) c.loop-left.invariant.inside).0

pub returns-clause-walked : goal.returns-clause-walked
returns-clause-walked c = (inside_last c.args.self.now c.args.base _ _ _ _ (omega (arith, c.loop-left-test.false)) c.loop-left.invariant.inside).1
