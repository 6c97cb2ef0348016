-- Which bays lie in a run, and how many members lie up to a bay.
use Rattle.std.proofs.Common.{◌≡◌, ℕ, zero, suc, ◌+◌, ◌-◌, ◌<◌, ◌≤◌, min, Bool, true, false, ltb, sym, refl, ap, ◌∙◌, ⊎_elim, arith}
use Rattle.std.proofs.lemmas.Bool.{cases_Bool, cases_lt, lt-ltb, le-ltb, le-leb, lt-leb, and_from, and_left, and_right}
use Rattle.sets.specs.Search.{count_to}
use Rattle.sets.proofs.Tests.{count_none, count_here, count_on, count_mono, count_at}
use Rattle.pioneer.specs.Runs.{place_of, runs, start_of, sum_of, length_of, behind_of, in_run, IsRun, Lawful}
use Rattle.pioneer.proofs.Places.{place_law, place_by, place_none, place_low, place_rises}

module _ (u n : ℕ) (P L : ℕ → Bool) where
  pub none_yet : (i : ℕ) → count_to P i ≡ 0 → in_run u n P L i ≡ false
  unfolding in_run
  none_yet i e = and_left _ _ (lt-leb 1 (count_to P i) (omega arith))

  -- where r runs have begun by bay i
  pub inside : (i r : ℕ) → count_to P i ≡ r → 1 ≤ r → i < behind_of u n P L r → in_run u n P L i ≡ true
  unfolding in_run
  inside i r e l h = and_from _ _ (le-leb 1 (count_to P i) (omega arith)) (ap (λ (k : ℕ). ltb i (behind_of u n P L k)) e ∙ lt-ltb i (behind_of u n P L r) h)

  pub outside : (i r : ℕ) → count_to P i ≡ r → behind_of u n P L r ≤ i → in_run u n P L i ≡ false
  unfolding in_run
  outside i r e h = and_right _ _ (ap (λ (k : ℕ). ltb i (behind_of u n P L k)) e ∙ le-ltb i (behind_of u n P L r) h)

module _ (u n : ℕ) (P L : ℕ → Bool) (law : Lawful u n P L) where
  -- what is known of run r
  pub record Stands (r : ℕ) : Type 0 where
    pub first : 1 ≤ start_of u n P L r
    pub last : start_of u n P L r ≤ u
    pub marked : P (start_of u n P L r) ≡ true
    pub begun : count_to P (start_of u n P L r) ≡ r
    pub longer : sum_of u n P L (r - 1) < sum_of u n P L r
    pub most : sum_of u n P L r ≤ n
    pub within : behind_of u n P L r ≤ u + 1

  pub stands : (r : ℕ) → IsRun u n P L r → Stands r
  stands r is =
      let start = place_law P u r is.0 is.1 in
      let sum = place_law L n r is.0 (omega (arith, law.0, is.1)) in
      record {
        first = start.0;
        last = start.1;
        marked = start.2;
        begun = start.3;
        longer = place_rises L n r is.0 (omega (arith, law.0, is.1));
        most = sum.1;
        within = law.2 r is;
      }

  -- before the first run there is none
  none_before : (place_of P u 0 ≡ 0) × (place_of L n 0 ≡ 0)
  none_before = (place_none P u, place_none L n)

  -- the run after run r begins past the bay behind run r; so does the first after none
  pub gap : (r : ℕ) → r < runs u n P L → behind_of u n P L r < start_of u n P L (r + 1)
  gap r h = ⊎_elim
      (λ less.
      let z : r ≡ 0 = omega arith in
      let at = stands 1 (omega arith, omega arith) in
      let e : behind_of u n P L r ≡ behind_of u n P L 0 = ap (behind_of u n P L) z in
      let t : start_of u n P L (r + 1) ≡ start_of u n P L 1 = ap (λ (k : ℕ). start_of u n P L (k + 1)) z in
      omega (arith, none_before.0, none_before.1))
      (λ more. law.3 r ((more, omega arith), h))
      (cases_lt r 1)

  sums_rise : (r : ℕ) → r ≤ runs u n P L → sum_of u n P L (r - 1) ≤ sum_of u n P L r
  sums_rise r h = ⊎_elim
      (λ less. let same : r - 1 ≡ r = omega arith in omega (arith, ap (sum_of u n P L) same))
      (λ more. let at = stands r (more, h) in omega arith)
      (cases_lt r 1)

  -- only where a run has begun there is a bay behind it
  pub begun_some : (r : ℕ) → 0 < behind_of u n P L r → 1 ≤ r
  begun_some zero h = absurd (omega (arith, none_before.0, none_before.1))
  begun_some (suc r) h = omega arith

  -- the members up to bay i, where r runs have begun
  abbrev pub told : ℕ → ℕ → ℕ
  told r i = sum_of u n P L (r - 1) + min (i + 1 - start_of u n P L r) (length_of u n P L r)

  pub rank_told : (i r : ℕ) → i ≤ u → count_to P i ≡ r → count_to (in_run u n P L) i ≡ told r i
  rank_told zero r h e =
      let z : r ≡ 0 = omega (arith, count_none P) in
      let t : told r 0 ≡ told 0 0 = ap (λ (k : ℕ). told k 0) z in
      omega (arith, count_none (in_run u n P L), none_before.1)
  rank_told (suc i) r h e = ⊎_elim
      (λ here.
      let k = count_to P i in
      let one = count_here P i here in
      let some : r ≤ runs u n P L = omega (arith, count_mono P (suc i) u h) in
      let at = stands r (omega arith, some) in
      let begins : suc i ≡ start_of u n P L r = place_by P u r (suc i) (omega arith, h, here, e) in
      let grows = count_here (in_run u n P L) i (inside u n P L (suc i) r e (omega arith) (omega arith)) in
      let past = gap k (omega arith) in
      let next : start_of u n P L (k + 1) ≡ start_of u n P L r = ap (start_of u n P L) (omega arith) in
      let low : sum_of u n P L (r - 1) ≡ sum_of u n P L k = ap (sum_of u n P L) (omega arith) in
      omega (arith, rank_told i k (omega arith) refl, sums_rise k (omega arith)))
      (λ away.
      let before : count_to P i ≡ r = sym (count_on P i away) ∙ e in
      let so_far = rank_told i r (omega arith) before in
      ⊎_elim
      (λ in'.
      let some : 1 ≤ r = begun_some r (omega arith) in
      let low = place_low P u i r some (omega (arith, count_mono P (suc i) u h)) (omega arith) in
      omega (arith, count_here (in_run u n P L) i (inside u n P L (suc i) r e some in')))
      (λ out. omega (arith, count_on (in_run u n P L) i (outside u n P L (suc i) r e out)))
      (cases_lt (suc i) (behind_of u n P L r)))
      (cases_Bool (P (suc i)))

  -- with the last bay all members are counted
  pub rank_all : count_to (in_run u n P L) u ≡ n
  rank_all = ⊎_elim
      (λ none.
      let z : runs u n P L ≡ 0 = omega arith in
      let no_member : n ≡ 0 = ⊎_elim (λ zero'. omega arith) (λ some. absurd (omega (arith, law.0, count_at L n some (law.1 some)))) (cases_lt n 1) in
      let t : told (runs u n P L) u ≡ told 0 u = ap (λ (k : ℕ). told k u) z in
      omega (arith, rank_told u _ (omega arith) refl, none_before.1))
      (λ some.
      let at = stands (runs u n P L) (some, omega arith) in
      let end = place_by L n (runs u n P L) n (omega arith, omega arith, law.1 (omega arith), sym law.0) in
      omega (arith, rank_told u _ (omega arith) refl))
      (cases_lt (runs u n P L) 1)

  -- by a bay in run r, or right behind it, r runs have begun
  pub begun_by : (i r : ℕ) → i ≤ u → IsRun u n P L r → start_of u n P L r ≤ i → i ≤ behind_of u n P L r → count_to P i ≡ r
  begun_by i r h is low high =
      let at = stands r is in
      let least = count_mono P (start_of u n P L r) i low in
      let all = count_mono P i u h in
      ⊎_elim
      (λ more. absurd (omega (arith, gap r (omega arith), place_low P u i (r + 1) (omega arith) (omega arith) (omega arith))))
      (λ same. omega arith)
      (cases_lt r (count_to P i))

  -- the last run that begins at or before bay i
  pub last_begun : (i r : ℕ) → i ≤ u → count_to P i ≡ r → 1 ≤ r → Stands r × (start_of u n P L r ≤ i)
  last_begun i r h e some =
      let most : r ≤ runs u n P L = omega (arith, count_mono P i u h) in
      (stands r (some, most), place_low P u i r some most (omega arith))
