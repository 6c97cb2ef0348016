-- What is left to show of `Pioneer::member`.
use Rattle.std.proofs.Common.{◌+◌, ◌-◌, None, ap, ◌∙◌, inl, inr, arith}
use Rattle.sets.proofs.Tests.{kth_by}
use Rattle.pioneer.specs.Found.{starts_of, sums_of}
use Rattle.pioneer.specs.Runs.{place_of}
use Rattle.pioneer.proofs.Asked.{run_of, kth_member}
use Rattle.pioneer.proofs.Finding.{all_members}
use Rattle.pioneer.proofs.Places.{kth_found, kth_there, place_by, place_last, last_low}
use Rattle.pioneer.proofs.index.Pioneer.member.Goals as goal
use Rattle.pioneer.proofs.index.Pioneer.member.Goals.{then-k-eq0-via-then-k-eq0, then-k-eq0-via-else-k-eq0+then-k-self}

pub returns-then-k-eq0 : goal.returns-then-k-eq0
returns-then-k-eq0 c =
    elim c.then-k-eq0.branch [
      | then-k-eq0-via-then-k-eq0 w ↦ kth_by _ _ _ None (inl w.if-k-eq0.true)
      | then-k-eq0-via-else-k-eq0+then-k-self w ↦ kth_by _ _ _ None (inr (omega (arith, w.if-k-self.true, all_members c.args.self.now)))
    ]

pub returns-in_err-start : goal.returns-in_err-start
returns-in_err-start c =
    let p = c.args.self.now in
    let is = run_of p.last p.count (starts_of p) (sums_of p) p.lawful c.args.k (omega arith) (omega arith) in
    absurd (kth_there (starts_of p) p.last _ (omega arith) (omega (arith, is.1, c.ones-r.ensures.value)) c.in_err-start.ensures)

pub overflow_sub-result : goal.overflow_sub-result
overflow_sub-result c = omega (arith, c.unwrap_or-before.ensures, last_low (sums_of c.args.self.now) _ _ c.previous.ensures)

pub overflow_add-result : goal.overflow_add-result
overflow_add-result c =
    let p = c.args.self.now in
    let start = kth_found (starts_of p) p.last _ _ c.in_ok-start.ensures in
    omega (arith, start.1, p.sized.1, p.most, c.if-k-self.false)

pub overflow_sub-result-2 : goal.overflow_sub-result-2
overflow_sub-result-2 c =
    let p = c.args.self.now in
    omega (arith, (kth_found (starts_of p) p.last _ _ c.in_ok-start.ensures).0)

pub returns : goal.returns
returns c =
    let p = c.args.self.now in
    let k = c.args.k in
    let found = kth_found (starts_of p) p.last _ _ c.in_ok-start.ensures in
    let number = ap (λ m. place_of (starts_of p) p.last (m + 1)) c.ones-r.ensures.value in
    let start = place_by (starts_of p) p.last _ _ found ∙ number in
    let before = c.unwrap_or-before.ensures ∙ place_last (sums_of p) p.count (k - 1) _ (omega arith) c.previous.ensures in
    let low = last_low (sums_of p) (k - 1) _ c.previous.ensures in
    kth_member p.last p.count (starts_of p) (sums_of p) p.lawful k _ (omega arith) (omega arith)
    (omega (arith, start, before, found.0, low, c.unwrap_or-before.ensures))
