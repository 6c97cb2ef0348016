-- What is left to show of `check_runs`.
use Rattle.std.proofs.Common.{◌≡◌, ◌≤◌, ◌+◌, ◌-◌, true, Err, unwrap_or, ap, subst, sym, refl, ◌∙◌, arith}
use Rattle.faults.specs.declared.fault.Flaw.TheVariants.{Unlawful}
use Rattle.bits.specs.Bits.{bit_at}
use Rattle.pioneer.proofs.Passing.{Passed, passed_none, sum_lacks, run_lacks, all_passed, more, touches, reaches, passed_end}
use Rattle.pioneer.proofs.Taking.{next_of_row}
use Rattle.pioneer.proofs.Checking.{is_lawful, is_unlawful}
use Rattle.pioneer.proofs.checks.check_runs.Goals as goal
use Rattle.pioneer.proofs.checks.check_runs.Goals.{else-count-gt0-via-then-count-gt0+else-not-get, else-count-gt0-via-else-count-gt0, then-start-behind-via-then-start-behind, then-start-behind-via-else-start-behind+then-to-last}

pub loop-start-init : goal.loop-start-init
loop-start-init c = record {
  passed = subst (λ start. Passed c.args.last c.args.count (bit_at c.args.starts.now) (bit_at c.args.sums.now) start 0 0) (sym c.after-firsts.ensures.place) (passed_none _ _ _ _);
  firsts = c.after-firsts.ensures.bytes;
  ends = (c.after-ends.ensures.bytes, c.after-ends.ensures.place);
}

pub returns-in_err-sum : goal.returns-in_err-sum
returns-in_err-sum c =
    let is : c.from_residual.result ≡ Err Unlawful = grind arith in
    let wrong = sum_lacks c.loop-start.invariant.passed _ (next_of_row _ _ _ _ _ _ (c.loop-start.invariant.firsts, refl) c.requires.firsts c.requires.firsts_clear c.in-Some.ensures.found) (next_of_row _ _ _ _ _ _ c.loop-start.invariant.ends c.requires.ends c.requires.ends_clear (sym c.in_err-sum.ensures.ok_part ∙ c.next-in-Some.ensures.found)) in
    rw is (record { answer = is_unlawful _ _ _ _ wrong; law = (refl, wrong) })

pub overflow_sub-to : goal.overflow_sub-to
overflow_sub-to c =
    let m = more c.loop-start.invariant.passed (next_of_row _ _ _ _ _ _ (c.loop-start.invariant.firsts, refl) c.requires.firsts c.requires.firsts_clear c.in-Some.ensures.found) (next_of_row _ _ _ _ _ _ c.loop-start.invariant.ends c.requires.ends c.requires.ends_clear (sym c.in_ok-sum.ensures.ok_part ∙ c.next-in-Some.ensures.found)) in omega arith

pub returns-then-start-behind : goal.returns-then-start-behind
returns-then-start-behind c =
    let t = next_of_row _ _ _ _ _ _ c.loop-start.invariant.ends c.requires.ends c.requires.ends_clear (sym c.in_ok-sum.ensures.ok_part ∙ c.next-in-Some.ensures.found) in
    let wrong : _ = elim c.then-start-behind.branch [
      | then-start-behind-via-then-start-behind w ↦ touches c.loop-start.invariant.passed (next_of_row _ _ _ _ _ _ (c.loop-start.invariant.firsts, refl) c.requires.firsts c.requires.firsts_clear c.in-Some.ensures.found) t (omega arith)
      | then-start-behind-via-else-start-behind+then-to-last w ↦ reaches c.loop-start.invariant.passed (next_of_row _ _ _ _ _ _ (c.loop-start.invariant.firsts, refl) c.requires.firsts c.requires.firsts_clear c.in-Some.ensures.found) t (omega arith)
    ] in
    record { answer = is_unlawful _ _ _ _ wrong; law = (refl, wrong) }

pub loop-start-smaller : goal.loop-start-smaller
loop-start-smaller c =
    let m = more c.loop-start.invariant.passed (next_of_row _ _ _ _ _ _ (c.loop-start.invariant.firsts, refl) c.requires.firsts c.requires.firsts_clear c.in-Some.ensures.found) (next_of_row _ _ _ _ _ _ c.loop-start.invariant.ends c.requires.ends c.requires.ends_clear (sym c.in_ok-sum.ensures.ok_part ∙ c.next-in-Some.ensures.found)) in omega (arith, c.in-Some.ensures.place)

pub loop-start-preserved : goal.loop-start-preserved
loop-start-preserved c =
    let inv = c.loop-start.invariant in
    let at = next_of_row _ _ _ _ _ _ (inv.firsts, refl) c.requires.firsts c.requires.firsts_clear c.in-Some.ensures.found in
    let end = next_of_row _ _ _ _ _ _ inv.ends c.requires.ends c.requires.ends_clear (sym c.in_ok-sum.ensures.ok_part ∙ c.next-in-Some.ensures.found) in
    let place : c.next-in-Some.new.self.place ≡ c.in_ok-sum.sum = c.next-in-Some.ensures.place ∙ ap (λ o. unwrap_or o c.loop-start.ends.place) (c.in_ok-sum.ensures.ok_part) in
    record {
      passed = subst (λ start. Passed c.args.last c.args.count (bit_at c.args.starts.now) (bit_at c.args.sums.now) start c.in_ok-sum.sum (c.in-Some.start + (c.in_ok-sum.sum - c.loop-start.before))) (sym c.in-Some.ensures.place) (passed_end inv.passed at end (omega arith) (omega arith));
      firsts = c.in-Some.ensures.bytes ∙ inv.firsts;
      ends = (c.next-in-Some.ensures.bytes ∙ inv.ends.0, place);
    }

pub returns-in-Some-next : goal.returns-in-Some-next
returns-in-Some-next c =
    let wrong = run_lacks c.loop-start.invariant.passed _ (next_of_row _ _ _ _ _ _ (c.loop-start.invariant.firsts, refl) c.requires.firsts c.requires.firsts_clear c.in_default.ensures.found) (next_of_row _ _ _ _ _ _ c.loop-start.invariant.ends c.requires.ends c.requires.ends_clear c.in-Some-next.ensures.found) in
    record { answer = is_unlawful _ _ _ _ wrong; law = (refl, wrong) }

-- the last bit was asked
ended : (c : goal.In-None) → 1 ≤ c.args.count → bit_at c.args.sums.now c.args.count ≡ true
ended c some =
    elim c.else-count-gt0.branch [
      | else-count-gt0-via-then-count-gt0+else-not-get w ↦ sym w.get.ensures ∙ w.if-not-get.false
      | else-count-gt0-via-else-count-gt0 w ↦ absurd (omega (arith, w.if-count-gt0.false))
    ]

pub returns-in-None : goal.returns-in-None
returns-in-None c =
    let lawful = all_passed c.loop-start.invariant.passed (ended c) (next_of_row _ _ _ _ _ _ (c.loop-start.invariant.firsts, refl) c.requires.firsts c.requires.firsts_clear c.in_default.ensures.found) (next_of_row _ _ _ _ _ _ c.loop-start.invariant.ends c.requires.ends c.requires.ends_clear c.in-None.ensures.found) in
    record { answer = is_lawful _ _ _ _ lawful; law = lawful }
