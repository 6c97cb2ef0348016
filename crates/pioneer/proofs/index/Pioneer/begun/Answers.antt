-- What is left to show of `Pioneer::begun`.
use Rattle.std.proofs.Common.{◌-◌, sym, ap, ◌∙◌, subst, arith}
use Rattle.pioneer.specs.Found.{BegunIs, starts_of, sums_of}
use Rattle.pioneer.specs.Runs.{place_of}
use Rattle.pioneer.proofs.Finding.{sum_there, sum_before}
use Rattle.pioneer.proofs.Places.{some_to, none_to, place_by, place_last, last_low, kth_found}
use Rattle.pioneer.proofs.index.Pioneer.begun.Goals as goal

pub returns-in_err-start : goal.returns-in_err-start
returns-in_err-start c =
    let none = none_to (starts_of c.args.self.now) c.args.i c.in_err-start.ensures in
    subst (BegunIs c.args.self.now c.args.i) (sym c.from_residual.ensures) none

pub returns-in_err-sum : goal.returns-in_err-sum
returns-in_err-sum c =
    let p = c.args.self.now in
    let some = some_to (starts_of p) c.args.i _ c.in_ok-start.ensures in
    absurd (sum_there p c.args.i c.ones-r.result c.requires c.ones-r.ensures.value (omega (arith, c.ones-r.ensures.value)) c.in_err-sum.ensures)

pub overflow_sub-sum : goal.overflow_sub-sum
overflow_sub-sum c = (kth_found (sums_of c.args.self.now) _ _ _ c.in_ok-sum.ensures).0

pub previous-requires-2 : goal.previous-requires-2
previous-requires-2 c =
    let p = c.args.self.now in
    let at = kth_found (sums_of p) p.count _ _ c.in_ok-sum.ensures in
    record { within = omega (arith, at.1, p.whole.1) }

pub overflow_sub-result : goal.overflow_sub-result
overflow_sub-result c = omega (arith, c.unwrap_or-before.ensures, last_low (sums_of c.args.self.now) _ _ c.previous-2.ensures)

pub returns : goal.returns
returns c =
    let p = c.args.self.now in
    let r = c.ones-r.ensures.value in
    let at = kth_found (sums_of p) p.count _ _ c.in_ok-sum.ensures in
    let sum = place_by (sums_of p) p.count _ _ at ∙ ap (place_of (sums_of p) p.count) r in
    let before = sum_before p _ _ _ _ at c.previous-2.ensures c.unwrap_or-before.ensures ∙ ap (λ k. place_of (sums_of p) p.count (k - 1)) r in (
      some_to (starts_of p) c.args.i _ c.in_ok-start.ensures,
      (place_last (starts_of p) p.last c.args.i _ c.requires c.in_ok-start.ensures, before, λ t. sum t - before t),
    )

pub invariant_of-result : goal.invariant_of-result
invariant_of-result c =
    let p = c.args.self.now in
    let at = kth_found (sums_of p) p.count _ _ c.in_ok-sum.ensures in
    let low = last_low (sums_of p) _ _ c.previous-2.ensures in
    let first = last_low (starts_of p) _ _ c.in_ok-start.ensures in
    record { few = (omega (arith, p.sized.1), omega (arith, c.unwrap_or-before.ensures, p.sized.1, p.most), omega (arith, p.sized.1, p.most)) }
