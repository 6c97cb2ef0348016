-- The places of the ones of a row.
use Rattle.std.proofs.Common.{◌≡◌, ℕ, suc, ◌+◌, ◌-◌, ◌<◌, ◌≤◌, Bool, true, false, Some, None, Option, unwrap_or, sym, refl, ap, ◌∙◌, subst, inl, ⊎_elim, arith}
use Rattle.std.proofs.lemmas.Bool.{cases_Bool, cases_lt}
use Rattle.sets.specs.Search.{first_from, last_to, count_to, kth_to}
use Rattle.sets.proofs.Tests.{FirstIs, LastIs, KthIs, first_law, last_law, kth_law, kth_by, last_kth, count_none, count_at, count_less, count_mono, count_without}
use Rattle.pioneer.specs.Runs.{place_of}

module _ (f : ℕ → Bool) where
  -- up to i there is a one, or there is none
  pub some_to : (i q : ℕ) → Some q ≡ last_to f i → 1 ≤ count_to f i
  some_to i q e =
      let law = subst (LastIs f i) (sym e) (last_law f i) in
      omega (arith, count_at f q law.0 law.2, count_mono f q i law.1)

  pub none_to : (i : ℕ) → None ≡ last_to f i → count_to f i ≡ 0
  none_to i e = let law = subst (LastIs f i) (sym e) (last_law f i) in count_without f 0 i (omega arith) law ∙ count_none f

  pub last_low : (i : ℕ) (o : Option ℕ) → o ≡ last_to f i → unwrap_or o 0 ≤ i
  last_low i None e = omega arith
  last_low i (Some q) e = (subst (LastIs f i) (sym e) (last_law f i)).1

module _ (f : ℕ → Bool) (n : ℕ) where
  -- the next one after p, or there is none up to n
  pub one_more : (p q : ℕ) → Some q ≡ first_from f (p + 1) (suc n - (p + 1)) → (p < q) × (q ≤ n) × (f q ≡ true) × (count_to f q ≡ suc (count_to f p))
  one_more p q e =
      let law = subst (FirstIs f (p + 1) (suc n - (p + 1))) (sym e) (first_law f (p + 1) _) in
      let none = count_without f p (q - 1) (omega (arith, law.0)) (λ j a b. law.3 j (omega arith) (omega arith)) in
      (omega (arith, law.0), omega (arith, law.0, law.1), law.2, omega (arith, none, count_at f q (omega (arith, law.0)) law.2))

  pub no_more : (p : ℕ) → p ≤ n → None ≡ first_from f (p + 1) (suc n - (p + 1)) → count_to f n ≡ count_to f p
  no_more p l e =
      let law = subst (FirstIs f (p + 1) (suc n - (p + 1))) (sym e) (first_law f (p + 1) _) in
      count_without f p n l (λ j a b. law j (omega arith) (omega arith))

  -- q is the place of the r-th one
  abbrev pub PlaceIs : ℕ → ℕ → Type 0
  PlaceIs r q = (1 ≤ q) × (q ≤ n) × (f q ≡ true) × (count_to f q ≡ r)

  there : (r : ℕ) (o : Option ℕ) → 1 ≤ r → r ≤ count_to f n → KthIs f r n o → PlaceIs r (unwrap_or o 0)
  there r None l h law = absurd (⊎_elim (λ z. omega arith) (λ few. omega arith) law)
  there r (Some q) l h law = law

  pub place_law : (r : ℕ) → 1 ≤ r → r ≤ count_to f n → PlaceIs r (place_of f n r)
  unfolding place_of
  place_law r l h = there r (kth_to f r n) l h (kth_law f r n)

  pub place_by : (r q : ℕ) → PlaceIs r q → q ≡ place_of f n r
  unfolding place_of
  place_by r q law = ap (λ (o : Option ℕ). unwrap_or o 0) (kth_by f r n (Some q) law)

  pub place_none : place_of f n 0 ≡ 0
  unfolding place_of
  place_none = sym (ap (λ (o : Option ℕ). unwrap_or o 0) (kth_by f 0 n None (inl refl)))

  -- the r-th one is found exactly if there are r
  pub kth_found : (r q : ℕ) → Some q ≡ kth_to f r n → PlaceIs r q
  kth_found r q e = subst (KthIs f r n) (sym e) (kth_law f r n)

  pub kth_there : (r : ℕ) → 1 ≤ r → r ≤ count_to f n → None ≡ kth_to f r n → ⊥
  kth_there r l h e = ⊎_elim (λ z. omega arith) (λ few. omega arith) (subst (KthIs f r n) (sym e) (kth_law f r n))

  -- the last one up to i
  pub place_last : (i : ℕ) (o : Option ℕ) → i ≤ n → o ≡ last_to f i → unwrap_or o 0 ≡ place_of f n (count_to f i)
  unfolding place_of
  place_last i o l e = ap (λ (o : Option ℕ). unwrap_or o 0) (e ∙ last_kth f i n l)

  -- what has come by i stands at or before it
  pub place_low : (i r : ℕ) → 1 ≤ r → r ≤ count_to f n → r ≤ count_to f i → place_of f n r ≤ i
  place_low i r l h come =
      let at = place_law r l h in
      ⊎_elim (λ past. absurd (omega (arith, count_less f i (place_of f n r) past at.2, at.3))) (λ low. low) (cases_lt i (place_of f n r))

  -- what has not come by i stands after it
  pub place_high : (i r : ℕ) → r ≤ count_to f n → count_to f i < r → i < place_of f n r
  place_high i r h due =
      let at = place_law r (omega arith) h in
      ⊎_elim (λ past. past) (λ low. absurd (omega (arith, count_mono f (place_of f n r) i low, at.3))) (cases_lt i (place_of f n r))

  pub place_rises : (r : ℕ) → 1 ≤ r → r ≤ count_to f n → place_of f n (r - 1) < place_of f n r
  place_rises r l h =
      ⊎_elim
      (λ first. let z : r - 1 ≡ 0 = omega arith in omega (arith, ap (place_of f n) z, place_none, (place_law r l h).0))
      (λ more. place_high (place_of f n (r - 1)) r h (omega (arith, (place_law (r - 1) (omega arith) (omega arith)).3)))
      (cases_lt r 2)

  -- between two ones there is none
  pub place_between : (r k : ℕ) → 1 ≤ r → r ≤ count_to f n → place_of f n (r - 1) < k → k < place_of f n r → f k ≡ false
  place_between r k l h low high =
      let at = place_law r l h in
      ⊎_elim
      (λ e.
      let less = count_less f k (place_of f n r) high at.2 in
      absurd (⊎_elim
      (λ first. omega (arith, at.3, count_at f k (omega arith) e))
      (λ more. omega (arith, at.3, (place_law (r - 1) (omega arith) (omega arith)).3, count_less f (place_of f n (r - 1)) k low e))
      (cases_lt r 2)))
      (λ e. e)
      (cases_Bool (f k))
