-- A check that goes from run to run.
use Rattle.std.proofs.Common.{◌≡◌, ℕ, suc, ◌+◌, ◌-◌, ◌<◌, ◌≤◌, Bool, true, Some, None, refl, ap, ◌∙◌, ⊎_elim, arith}
use Rattle.std.proofs.lemmas.Bool.{cases_lt}
use Rattle.sets.specs.Search.{first_from, count_to}
use Rattle.sets.proofs.Tests.{count_none, count_mono}
use Rattle.pioneer.specs.Runs.{place_of, runs, start_of, sum_of, behind_of, IsRun, Lawful}
use Rattle.pioneer.proofs.Places.{one_more, no_more, place_by, place_none}
use Rattle.pioneer.proofs.Ranks.{gap}

module _ (u n : ℕ) (P L : ℕ → Bool) where
  -- run r begins past the bay behind the run before it, and ends within the bays
  abbrev pub Fits : ℕ → Type 0
  Fits r = (behind_of u n P L (r - 1) < start_of u n P L r) × (behind_of u n P L r ≤ u + 1)

  -- where each run fits
  pub all_fit : (runs u n P L ≡ count_to L n) → (1 ≤ n → L n ≡ true) → ((r : ℕ) → IsRun u n P L r → Fits r) → Lawful u n P L
  all_fit equal ended fits = (
    equal,
    ended,
    λ r is. (fits r is).1,
    λ r is.
        let e : r + 1 - 1 ≡ r = omega arith in
        let on = (fits (r + 1) (omega arith, omega (arith, is.1))).0 in
        omega (arith, ap (place_of L n) e, ap (place_of P u) e, ap (λ (k : ℕ). place_of L n (k - 1)) e),
  )

  pub each_fits : Lawful u n P L → (r : ℕ) → IsRun u n P L r → Fits r
  each_fits law r is =
      let e : r - 1 + 1 ≡ r = omega (arith, is.0) in
      (omega (arith, gap u n P L law (r - 1) (omega (arith, is.0, is.1)), ap (place_of P u) e), law.2 r is)

  -- the first runs have been seen to fit, up to the one that begins at this bay
  pub record Passed (start sum behind : ℕ) : Type 0 where
    pub within : start ≤ u
    pub most : sum ≤ n
    pub starts : start ≡ start_of u n P L (count_to P start)
    pub sums : sum ≡ sum_of u n P L (count_to P start)
    pub same : count_to L sum ≡ count_to P start
    pub behinds : behind ≡ behind_of u n P L (count_to P start)
    pub fits : (r : ℕ) → 1 ≤ r → r ≤ count_to P start → Fits r

  pub passed_none : Passed 0 0 0
  passed_none =
      let z = count_none P in
      let a = ap (place_of P u) z in
      let b = ap (place_of L n) z in
      let d = ap (λ (k : ℕ). place_of L n (k - 1)) z in
      let s = place_none P u in
      let t = place_none L n in
      record {
        within = omega arith;
        most = omega arith;
        starts = omega arith;
        sums = omega arith;
        same = omega (arith, count_none L);
        behinds = omega arith;
        fits = λ r l h. absurd (omega arith);
      }

  -- one more run begins and ends
  pub record More (start sum at end : ℕ) : Type 0 where
    pub later : start < at
    pub within : at ≤ u
    pub marked : P at ≡ true
    pub begun : count_to P at ≡ suc (count_to P start)
    pub longer : sum < end
    pub most : end ≤ n
    pub summed : L end ≡ true
    pub ended : count_to L end ≡ suc (count_to L sum)

module _ {u n : ℕ} {P L : ℕ → Bool} {start sum behind : ℕ} (passed : Passed u n P L start sum behind) where
  -- a run without a sum, or a sum without a run
  pub sum_lacks : (at : ℕ) → Some at ≡ first_from P (start + 1) (suc u - (start + 1)) → None ≡ first_from L (sum + 1) (suc n - (sum + 1)) → Lawful u n P L → ⊥
  sum_lacks at s t law =
      let a = one_more P u start at s in
      omega (arith, law.0, a.3, count_mono P at u a.1, no_more L n sum passed.most t)

  pub run_lacks : (end : ℕ) → None ≡ first_from P (start + 1) (suc u - (start + 1)) → Some end ≡ first_from L (sum + 1) (suc n - (sum + 1)) → Lawful u n P L → ⊥
  run_lacks end s t law =
      let b = one_more L n sum end t in
      omega (arith, law.0, b.3, count_mono L end n b.1, no_more P u start passed.within s)

  -- all have passed
  pub all_passed : (1 ≤ n → L n ≡ true) → None ≡ first_from P (start + 1) (suc u - (start + 1)) → None ≡ first_from L (sum + 1) (suc n - (sum + 1)) → Lawful u n P L
  all_passed ended s t =
      let a = no_more P u start passed.within s in
      let b = no_more L n sum passed.most t in
      all_fit u n P L (omega arith) ended (λ r is. passed.fits r is.0 (omega (arith, is.1)))

module _ {u n : ℕ} {P L : ℕ → Bool} {start sum behind at end : ℕ} (passed : Passed u n P L start sum behind) (s : Some at ≡ first_from P (start + 1) (suc u - (start + 1))) (t : Some end ≡ first_from L (sum + 1) (suc n - (sum + 1))) where
  pub more : More u n P L start sum at end
  more =
      let a = one_more P u start at s in
      let b = one_more L n sum end t in
      record { later = a.0; within = a.1; marked = a.2; begun = a.3; longer = b.0; most = b.1; summed = b.2; ended = b.3 }

  starts_at : at ≡ start_of u n P L (count_to P at)
  starts_at = let m = more in place_by P u _ at (omega arith, more.within, more.marked, refl)

  ends_at : end ≡ sum_of u n P L (count_to P at)
  ends_at = let m = more in place_by L n _ end (omega arith, more.most, more.summed, omega arith)

  sum_before : sum ≡ sum_of u n P L (count_to P at - 1)
  sum_before = let m = more in let e : count_to P start ≡ count_to P at - 1 = omega arith in omega (arith, ap (place_of L n) e)

  behind_at : at + (end - sum) ≡ behind_of u n P L (count_to P at)
  behind_at = omega (arith, starts_at, ends_at, sum_before)

  behind_before : behind ≡ behind_of u n P L (count_to P at - 1)
  behind_before = let m = more in let e : count_to P start ≡ count_to P at - 1 = omega arith in passed.behinds ∙ ap (behind_of u n P L) e

  is_run : IsRun u n P L (count_to P at)
  is_run = let m = more in (omega arith, omega (arith, count_mono P at u more.within))

  -- it must not touch the run before it, nor reach past the last bay
  pub touches : at ≤ behind → Lawful u n P L → ⊥
  touches low law = omega (arith, (each_fits u n P L law (count_to P at) is_run).0, starts_at, behind_before)

  pub reaches : u + 1 < at + (end - sum) → Lawful u n P L → ⊥
  reaches high law = omega (arith, (each_fits u n P L law (count_to P at) is_run).1, behind_at)

  pub passed_end : behind < at → at + (end - sum) ≤ u + 1 → Passed u n P L at end (at + (end - sum))
  passed_end low high = record {
    within = more.within;
    most = more.most;
    starts = starts_at;
    sums = ends_at;
    same = let m = more in omega arith;
    behinds = behind_at;
    fits = λ r l h. ⊎_elim
        (λ less. passed.fits r l (omega (arith, more.begun)))
        (λ new.
        let e : count_to P at ≡ r = omega arith in
        let b = ap (behind_of u n P L) e in
        let d = ap (λ (k : ℕ). behind_of u n P L (k - 1)) e in
        let s = ap (start_of u n P L) e in
        (omega (arith, starts_at, behind_before), omega (arith, behind_at)))
        (cases_lt r (count_to P at));
  }
