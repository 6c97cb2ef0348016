-- The answers to the questions, by the run in which, or behind which, a bay falls.
use Rattle.std.proofs.Common.{◌≡◌, ℕ, suc, ◌+◌, ◌-◌, ◌<◌, ◌≤◌, min, Bool, true, false, not, Some, None, Option, leb, ltb, refl, ap, ⊎_elim, arith}
use Rattle.std.specs.Bool.{then_some}
use Rattle.std.proofs.lemmas.Bool.{cases_lt, leb-true, leb-false, ltb-true, ltb-false}
use Rattle.sets.specs.Search.{first_from, last_to, count_to, kth_to}
use Rattle.sets.proofs.Tests.{FirstIs, first_law, first_by, last_by, kth_by, count_mono, count_less}
use Rattle.pioneer.specs.Runs.{place_of, start_of, sum_of, length_of, behind_of, in_run, IsRun, Lawful}
use Rattle.pioneer.proofs.Places.{place_none, place_low, place_high}
use Rattle.pioneer.proofs.Ranks.{none_yet, inside, outside, stands, begun_by, last_begun, rank_told}
use Rattle.pioneer.proofs.Sides.{inside_parts, run_inside, run_behind, run_before, pioneer_in, still_out}

-- what a test keeps is what is there where it passes, and nothing is there where it does not
pub kept : {A : Type 0} (b : Bool) (x : A) (o : Option A) → (b ≡ true → Some x ≡ o) → (b ≡ false → None ≡ o) → then_some b x ≡ o
kept true x o pass fail = pass refl
kept false x o pass fail = fail refl

-- the first and the last where one passes at once
module _ (f : ℕ → Bool) where
  pub first_here : (i n : ℕ) → i ≤ n → f i ≡ true → Some i ≡ first_from f i (suc n - i)
  first_here i n h e = first_by f i _ (Some i) (omega arith, omega arith, e, λ j l g. absurd (omega arith))

  pub last_here : (i : ℕ) → 1 ≤ i → f i ≡ true → Some i ≡ last_to f i
  last_here i l e = last_by f i (Some i) (l, omega arith, e, λ j a b. absurd (omega arith))

module _ (u n : ℕ) (P L : ℕ → Bool) (law : Lawful u n P L) where
  -- behind a run, the next member is the next pioneer
  pub next_pioneer : (i : ℕ) → 1 ≤ i → in_run u n P L i ≡ false → first_from P i (suc u - i) ≡ first_from (in_run u n P L) i (suc u - i)
  next_pioneer i l e = first_by (in_run u n P L) i _ _ (by _ (first_law P i (suc u - i)))
    where
      by : (o : Option ℕ) → FirstIs P i (suc u - i) o → FirstIs (in_run u n P L) i (suc u - i) o
      by None none = λ j a b. still_out u n P L law i j a (λ k c d. none k (omega arith) (omega arith)) e
      by (Some q) found = (
        found.0,
        found.1,
        pioneer_in u n P L law q (omega (arith, found.0)) (omega (arith, found.0, found.1)) found.2,
        λ j a b. still_out u n P L law i j a (λ k c d. found.3 k (omega arith) (omega arith)) e,
      )

  -- the run that bay i lies in
  module _ (i : ℕ) (h : i ≤ u) (e : in_run u n P L i ≡ true) where
    run : IsRun u n P L (count_to P i)
    run = ((inside_parts u n P L i e).0, count_mono P i u h)

    low : start_of u n P L (count_to P i) ≤ i
    low = (last_begun u n P L law i _ h refl run.0).1

    -- its bays are no non-members
    in_run_lem : (j : ℕ) → start_of u n P L (count_to P i) ≤ j → j < behind_of u n P L (count_to P i) → not (in_run u n P L j) ≡ false
    in_run_lem j a b = ap not (run_inside u n P L law j (count_to P i) run a b)

    -- the first non-member after it lies behind the run, if there is one
    pub next_behind : (q : ℕ) → q ≡ behind_of u n P L (count_to P i) → then_some (leb q u) q ≡ first_from (λ j. not (in_run u n P L j)) i (suc u - i)
    next_behind q same =
        let high = (inside_parts u n P L i e).1 in
        kept (leb q u) q _
        (λ within. first_by (λ j. not (in_run u n P L j)) i _ (Some q)
        (omega arith, omega (arith, leb-true q u within), ap not (run_behind u n P L law q _ run same (leb-true q u within)), λ j a b. in_run_lem j (omega (arith, low)) (omega arith)))
        (λ past. first_by (λ j. not (in_run u n P L j)) i _ None (λ j a b. in_run_lem j (omega (arith, low)) (omega (arith, leb-false q u past))))

    -- the last non-member before it lies before the run, if there is one
    pub previous_before : (q : ℕ) → suc q ≡ start_of u n P L (count_to P i) → then_some (ltb 0 q) q ≡ last_to (λ j. not (in_run u n P L j)) i
    previous_before q same =
        let high = (inside_parts u n P L i e).1 in
        kept (ltb 0 q) q _
        (λ some. last_by (λ j. not (in_run u n P L j)) i (Some q)
        (ltb-true 0 q some, omega (arith, low), ap not (run_before u n P L law q _ run same), λ j a b. in_run_lem j (omega arith) (omega arith)))
        (λ none. last_by (λ j. not (in_run u n P L j)) i None (λ j a b. in_run_lem j (omega (arith, ltb-false 0 q none)) (omega arith)))

  -- the last run that begins at or before bay i
  pub none_to_here : (i : ℕ) → count_to P i ≡ 0 → None ≡ last_to (in_run u n P L) i
  none_to_here i e = last_by (in_run u n P L) i None (λ j a b. none_yet u n P L j (omega (arith, count_mono P j i b)))

  pub last_of_run : (i q : ℕ) → i ≤ u → 1 ≤ count_to P i → q ≡ min i (behind_of u n P L (count_to P i) - 1) → Some q ≡ last_to (in_run u n P L) i
  last_of_run i q h some same =
      let r = count_to P i in
      let at = last_begun u n P L law i r h refl some in
      let stands' = at.0 in
      let run : IsRun u n P L r = (some, count_mono P i u h) in
      let begun = begun_by u n P L law q r (omega arith) run (omega (arith, at.1)) (omega arith) in
      last_by (in_run u n P L) i (Some q) (
        omega (arith, at.1),
        omega arith,
        inside u n P L q r begun some (omega (arith, at.1)),
        λ j a b.
            outside u n P L j r (omega (arith, count_mono P q j (omega arith), count_mono P j i b)) (omega arith),
      )

  pub rank_none : (i : ℕ) → i ≤ u → count_to P i ≡ 0 → count_to (in_run u n P L) i ≡ 0
  rank_none i h e =
      omega (arith, rank_told u n P L law i 0 h e, place_none L n)

  pub rank_in : (i : ℕ) → i ≤ u → 1 ≤ count_to P i → count_to (in_run u n P L) i ≡ sum_of u n P L (count_to P i - 1) + min (i - start_of u n P L (count_to P i) + 1) (length_of u n P L (count_to P i))
  rank_in i h some =
      let at = last_begun u n P L law i _ h refl some in
      omega (arith, rank_told u n P L law i _ h refl, at.1)

  -- the run of the k-th member
  pub run_of : (k : ℕ) → 1 ≤ k → k ≤ n → IsRun u n P L (count_to L (k - 1) + 1)
  run_of k l h = (omega arith, omega (arith, law.0, count_less L (k - 1) n (omega arith) (law.1 (omega arith))))

  pub sum_low : (k : ℕ) → k ≤ n → sum_of u n P L (count_to L k) ≤ k
  sum_low k h = ⊎_elim
      (λ none.
      let z : count_to L k ≡ 0 = omega arith in
      omega (arith, ap (place_of L n) z, place_none L n))
      (λ some. place_low L n k (count_to L k) some (count_mono L k n h) (omega arith))
      (cases_lt (count_to L k) 1)

  pub kth_member : (k q : ℕ) → 1 ≤ k → k ≤ n → q + 1 + sum_of u n P L (count_to L (k - 1)) ≡ start_of u n P L (count_to L (k - 1) + 1) + k → Some q ≡ kth_to (in_run u n P L) k u
  kth_member k q l h e =
      let r = count_to L (k - 1) + 1 in
      let is = run_of k l h in
      let at = stands u n P L law r is in
      let before : r - 1 ≡ count_to L (k - 1) = omega arith in
      let same = ap (sum_of u n P L) before in
      let below = sum_low (k - 1) (omega arith) in
      let above = place_high L n (k - 1) r (omega (arith, law.0, is.1)) (omega arith) in
      let begun = begun_by u n P L law q r (omega arith) is (omega arith) (omega arith) in
      kth_by (in_run u n P L) k u (Some q)
      (omega arith, omega arith, inside u n P L q r begun is.0 (omega arith), omega (arith, rank_told u n P L law q r (omega arith) begun))
