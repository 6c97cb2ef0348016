-- The bays of a run are members, and those beside it are none.
use Rattle.std.proofs.Common.{◌≡◌, ℕ, suc, ◌+◌, ◌-◌, ◌<◌, ◌≤◌, Bool, true, false, refl, ap, ⊎_elim, arith}
use Rattle.std.proofs.lemmas.Bool.{cases_lt, both_ways, and_parts, leb-true, ltb-true}
use Rattle.sets.specs.Search.{count_to}
use Rattle.sets.proofs.Tests.{count_at, count_mono, count_without}
use Rattle.pioneer.specs.Runs.{place_of, start_of, behind_of, in_run, IsRun, Lawful}
use Rattle.pioneer.proofs.Places.{place_by}
use Rattle.pioneer.proofs.Ranks.{inside, outside, stands, gap, begun_some, begun_by}

module _ (u n : ℕ) (P L : ℕ → Bool) where
  pub inside_parts : (i : ℕ) → in_run u n P L i ≡ true → (1 ≤ count_to P i) × (i < behind_of u n P L (count_to P i))
  unfolding in_run
  inside_parts i e = let parts = and_parts _ _ e in (leb-true 1 (count_to P i) parts.0, ltb-true i _ parts.1)

module _ (u n : ℕ) (P L : ℕ → Bool) (law : Lawful u n P L) where
  pub outside_part : (i : ℕ) → in_run u n P L i ≡ false → behind_of u n P L (count_to P i) ≤ i
  outside_part i e = ⊎_elim
      (λ less. absurd (both_ways _ e (inside u n P L i _ refl (begun_some u n P L law _ (omega arith)) less)))
      (λ more. more)
      (cases_lt i (behind_of u n P L (count_to P i)))

  pub run_inside : (i r : ℕ) → IsRun u n P L r → start_of u n P L r ≤ i → i < behind_of u n P L r → in_run u n P L i ≡ true
  run_inside i r is low high =
      let at = stands u n P L law r is in
      inside u n P L i r (begun_by u n P L law i r (omega arith) is low (omega arith)) is.0 high

  pub run_behind : (i r : ℕ) → IsRun u n P L r → i ≡ behind_of u n P L r → i ≤ u → in_run u n P L i ≡ false
  run_behind i r is e h =
      let at = stands u n P L law r is in
      outside u n P L i r (begun_by u n P L law i r h is (omega arith) (omega arith)) (omega arith)

  pub run_before : (i r : ℕ) → IsRun u n P L r → suc i ≡ start_of u n P L r → in_run u n P L i ≡ false
  run_before i r is e =
      let at = stands u n P L law r is in
      let same : start_of u n P L r - 1 ≡ i = omega arith in
      let less : count_to P i ≡ r - 1 = omega (arith, count_at P (start_of u n P L r) at.first at.marked, ap (count_to P) same) in
      let on : r - 1 + 1 ≡ r = omega (arith, is.0) in
      outside u n P L i (r - 1) less (omega (arith, gap u n P L law (r - 1) (omega (arith, is.0, is.1)), ap (place_of P u) on))

  -- a one of P is the first bay of a run
  pub pioneer : (i : ℕ) → 1 ≤ i → i ≤ u → P i ≡ true → IsRun u n P L (count_to P i) × (i ≡ start_of u n P L (count_to P i))
  pioneer i l h e =
      ((omega (arith, count_at P i l e), count_mono P i u h), place_by P u (count_to P i) i (l, h, e, refl))

  pub pioneer_in : (i : ℕ) → 1 ≤ i → i ≤ u → P i ≡ true → in_run u n P L i ≡ true
  pioneer_in i l h e =
      let first = pioneer i l h e in
      let at = stands u n P L law (count_to P i) first.0 in
      inside u n P L i _ refl first.0.0 (omega (arith, first.1))

  -- behind a run no bay is a member before the next pioneer
  pub still_out : (i j : ℕ) → i ≤ j → ((k : ℕ) → i < k → k ≤ j → P k ≡ false) → in_run u n P L i ≡ false → in_run u n P L j ≡ false
  still_out i j l none e = outside u n P L j (count_to P i) (count_without P i j l none) (omega (arith, outside_part i e))
