-- What is left to show of `Pioneer::other`.
use Rattle.std.proofs.Common.{◌+◌, ◌-◌, ◌≤◌, None, inl, inr, sym, ap, ◌∙◌, arith, rules}
use Rattle.sets.specs.Search.{count_to}
use Rattle.sets.proofs.Tests.{kth_by, count_none, count_mono}
use Rattle.pioneer.specs.Found.{starts_of}
use Rattle.pioneer.proofs.Finding.{all_others}
use Rattle.pioneer.proofs.Unpacking.{sum_most}
use Rattle.pioneer.proofs.Searching.{other_of, Told, told_of, before_run, still, found_kth, behind_most, some_run, none_of, some_beyond}
use Rattle.pioneer.proofs.index.Pioneer.other.Goals as goal
use Rattle.pioneer.proofs.index.Pioneer.other.Goals.{then-k-eq0-via-then-k-eq0, then-k-eq0-via-else-k-eq0+then-k-self, then-found-behind, else-found-behind+else-is_none}

pub returns-then-k-eq0 : goal.returns-then-k-eq0
returns-then-k-eq0 c =
    elim c.then-k-eq0.branch [
      | then-k-eq0-via-then-k-eq0 w ↦ kth_by _ _ _ None (inl w.if-k-eq0.true)
      | then-k-eq0-via-else-k-eq0+then-k-self w ↦ kth_by _ _ _ None (inr (omega (arith, w.if-k-self.true, all_others c.args.self.now)))
    ]

pub loop-between-init : goal.loop-between-init
loop-between-init c = record {
  few = sym (count_none (other_of c.args.self.now));
  below = omega arith;
  enough = sym (all_others c.args.self.now);
  reach = omega arith;
  last = omega arith;
}

pub overflow_sub-behind : goal.overflow_sub-behind
overflow_sub-behind c =
    let p = c.args.self.now in
    let bay = c.pick-bay.result in
    let h : bay ≤ p.last = omega (arith, c.loop-between.invariant.last) in
    let told : Told p bay h c.map_or-start.result = told_of p bay h c.begun.result _ c.begun.ensures (λ x e. search rules) c.map_or-start.ensures in
    omega (arith, told.3)

pub overflow_sub-between-then-found-behind-3 : goal.overflow_sub-between-then-found-behind-3
overflow_sub-between-then-found-behind-3 c =
    let p = c.args.self.now in
    let bay = c.pick-bay.result in
    let h : bay ≤ p.last = omega (arith, c.loop-between.invariant.last) in
    let told : Told p bay h c.map_or-start.result = told_of p bay h c.begun.result _ c.begun.ensures (λ x e. search rules) c.map_or-start.ensures in
    omega (arith, told.3)

pub next-requires-clause-within : goal.next-requires-clause-within
next-requires-clause-within c =
    let p = c.args.self.now in
    let bay = c.pick-bay.result in
    let h : bay ≤ p.last = omega (arith, c.loop-between.invariant.last) in
    let told : Told p bay h c.map_or-start.result = told_of p bay h c.begun.result _ c.begun.ensures (λ x e. search rules) c.map_or-start.ensures in
    omega (arith, sum_most p (count_to (starts_of p) bay) (count_mono (starts_of p) bay p.last h), told.2, p.whole.0, p.most)

pub returns-then-is_none : goal.returns-then-is_none
returns-then-is_none c =
    let p = c.args.self.now in
    let bay = c.pick-bay.result in
    let h : bay ≤ p.last = omega (arith, c.loop-between.invariant.last) in
    let told : Told p bay h c.map_or-start.result = told_of p bay h c.begun.result _ c.begun.ensures (λ x e. search rules) c.map_or-start.ensures in
    let none = none_of c.next.result c.if-is_none.ensures in
    found_kth p bay h c.args.k _ (omega arith) (omega (arith, told.2))
    (omega (arith, sum_most p (count_to (starts_of p) bay) (count_mono (starts_of p) bay p.last h), told.2, p.most)) (omega (arith, told.0, told.1, told.2)) (none ∙ c.next.ensures)

pub overflow_sub-between-else-is_none : goal.overflow_sub-between-else-is_none
overflow_sub-between-else-is_none c =
    let p = c.args.self.now in
    let bay = c.pick-bay.result in
    let h : bay ≤ p.last = omega (arith, c.loop-between.invariant.last) in
    let told : Told p bay h c.map_or-start.result = told_of p bay h c.begun.result _ c.begun.ensures (λ x e. search rules) c.map_or-start.ensures in
    omega (arith, told.2, c.max.ensures, still p bay h c.max.result (omega (arith, behind_most p bay h, told.0, told.1, told.2, c.max.ensures, c.saturating_sub.ensures)) (omega (arith, told.0, told.1, told.2, c.max.ensures, c.saturating_sub.ensures)))

pub loop-between-smaller : goal.loop-between-smaller
loop-between-smaller c =
    let p = c.args.self.now in
    let bay = c.pick-bay.result in
    let h : bay ≤ p.last = omega (arith, c.loop-between.invariant.last) in
    let told : Told p bay h c.map_or-start.result = told_of p bay h c.begun.result _ c.begun.ensures (λ x e. search rules) c.map_or-start.ensures in
    elim c.if-found-behind.branch [
      | then-found-behind b ↦
          let run = before_run p bay h (some_run p bay h (omega (arith, told.0, told.1, told.2, b.if-found-behind.true))) in
          rw b.between-is (omega (arith, run.0, run.1, told.0))
      | else-found-behind+else-is_none b ↦ rw b.between-is (omega (arith, b.max.ensures))
    ]

pub loop-between-preserved : goal.loop-between-preserved
loop-between-preserved c =
    let p = c.args.self.now in
    let bay = c.pick-bay.result in
    let h : bay ≤ p.last = omega (arith, c.loop-between.invariant.last) in
    let told : Told p bay h c.map_or-start.result = told_of p bay h c.begun.result _ c.begun.ensures (λ x e. search rules) c.map_or-start.ensures in
    let inv = c.loop-between.invariant in
    elim c.if-found-behind.branch [
      | then-found-behind b ↦
          let run = before_run p bay h (some_run p bay h (omega (arith, told.0, told.1, told.2, b.if-found-behind.true))) in
          let same = ap (λ i. count_to (other_of p) (i - 1)) told.0 in
          rw b.between-is (record {
            few = inv.few;
            below = inv.below;
            enough = omega (arith, run.2, same, told.0, told.1);
            reach = omega (arith, b.if-found-behind.true, told.0, told.1, told.2);
            last = omega (arith, run.0, told.0, h);
          })
      | else-found-behind+else-is_none b ↦
          let most : b.max.result ≤ p.last = omega (arith, behind_most p bay h, told.0, told.1, told.2, b.max.ensures, b.saturating_sub.ensures) in
          let past = still p bay h b.max.result most (omega (arith, told.0, told.1, told.2, b.max.ensures, b.saturating_sub.ensures)) in
          let beyond = some_beyond (starts_of p) bay (c.args.k + c.map_or-start.result.2) b.next.result b.if-is_none.ensures b.next.ensures in
          rw b.between-is (record {
            few = omega (arith, past, told.2);
            below = omega (arith, beyond, b.if-found-behind.false, told.0, told.1, told.2, b.max.ensures, b.saturating_sub.ensures);
            enough = inv.enough;
            reach = inv.reach;
            last = inv.last;
          })
    ]

pub returns : goal.returns
returns c = absurd (omega (arith, c.loop-between-test.false, c.loop-between.invariant.few, c.loop-between.invariant.below, c.loop-between.invariant.enough, c.loop-between.invariant.reach, count_mono (other_of c.args.self.now) c.loop-between.between.high c.loop-between.between.low c.loop-between-test.false))
