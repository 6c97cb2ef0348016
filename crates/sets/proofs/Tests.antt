-- The first, the last, the number and the k-th of the numbers that pass a test: their steps, their laws, and that the laws leave
-- one answer.
use Rattle.std.proofs.Common.{◌≡◌, ℕ, zero, suc, ◌+◌, ◌-◌, ◌<◌, ◌≤◌, Bool, true, false, cond, not, ◌&&◌, eqb, ◌⊎◌, Some, None, Option, sym, refl, ap, ◌∙◌, inl, inr, ⊎_elim, arith}
use Rattle.std.proofs.lemmas.Bool.{cond-true, cond-false, cond_both, cases_Bool, cases_lt, cases_order, and_parts, and_from, eqb-true, eq-eqb, both_ways}
use Rattle.sets.specs.Search.{first_from, last_to, count_to, kth_to}

-- the first of the n numbers from p on that passes, or none of them does
abbrev pub FirstIs : (ℕ → Bool) → ℕ → ℕ → Option ℕ → Type 0
FirstIs f p n None = (j : ℕ) → p ≤ j → j < p + n → f j ≡ false
FirstIs f p n (Some q) = (p ≤ q) × (q < p + n) × (f q ≡ true) × ((j : ℕ) → p ≤ j → j < q → f j ≡ false)

-- the last of the numbers 1 to n that passes, or none of them does
abbrev pub LastIs : (ℕ → Bool) → ℕ → Option ℕ → Type 0
LastIs f n None = (j : ℕ) → 1 ≤ j → j ≤ n → f j ≡ false
LastIs f n (Some q) = (1 ≤ q) × (q ≤ n) × (f q ≡ true) × ((j : ℕ) → q < j → j ≤ n → f j ≡ false)

-- the k-th of the numbers 1 to n that pass, or there are fewer, or k is 0
abbrev pub KthIs : (ℕ → Bool) → ℕ → ℕ → Option ℕ → Type 0
KthIs f k n None = (k ≡ 0) ⊎ (count_to f n < k)
KthIs f k n (Some q) = (1 ≤ q) × (q ≤ n) × (f q ≡ true) × (count_to f q ≡ k)

module _ (f : ℕ → Bool) where
  -- ---- the first

  at_same : (p j : ℕ) → f p ≡ false → p ≤ j → (p < j → f j ≡ false) → f j ≡ false
  at_same p j e l h = ⊎_elim h (λ g. let same : j ≡ p = omega arith in ap f same ∙ e) (cases_lt p j)

  first_down : (p n : ℕ) (r : Option ℕ) → f p ≡ false → FirstIs f (suc p) n r → FirstIs f p (suc n) r
  first_down p n None h law = λ j l g. at_same p j h l (λ more. law j (omega arith) (omega arith))
  first_down p n (Some q) h law =
      (omega (arith, law.0), omega (arith, law.1), law.2, λ j l g. at_same p j h l (λ more. law.3 j (omega arith) g))

  pub first_law : (p n : ℕ) → FirstIs f p n (first_from f p n)
  unfolding first_from
  first_law p zero = λ j l g. absurd (omega arith)
  first_law p (suc n) =
      cond_both (f p) (Some p) (first_from f (suc p) n) (FirstIs f p (suc n))
      (λ e. (omega arith, omega arith, e, λ j l g. absurd (omega arith)))
      (λ e. first_down p n _ e (first_law (suc p) n))

  first_only : (p n : ℕ) (r t : Option ℕ) → FirstIs f p n r → FirstIs f p n t → r ≡ t
  first_only p n None None a b = refl
  first_only p n None (Some q) a b = absurd (both_ways _ (a q b.0 b.1) b.2)
  first_only p n (Some q) None a b = absurd (both_ways _ (b q a.0 a.1) a.2)
  first_only p n (Some q) (Some t) a b =
      ⊎_elim (λ e. ap Some e)
      (⊎_elim (λ less. absurd (both_ways _ (b.3 q a.0 less) a.2)) (λ more. absurd (both_ways _ (a.3 t b.0 more) b.2)))
      (cases_order q t)

  pub first_by : (p n : ℕ) (r : Option ℕ) → FirstIs f p n r → r ≡ first_from f p n
  first_by p n r law = first_only p n r (first_from f p n) law (first_law p n)

  -- ---- the last

  at_top : (p j : ℕ) → f p ≡ false → j ≤ p → (j < p → f j ≡ false) → f j ≡ false
  at_top p j e l h = ⊎_elim h (λ g. let same : j ≡ p = omega arith in ap f same ∙ e) (cases_lt j p)

  last_up : (n : ℕ) (r : Option ℕ) → f (suc n) ≡ false → LastIs f n r → LastIs f (suc n) r
  last_up n None h law = λ j l g. at_top (suc n) j h g (λ less. law j l (omega arith))
  last_up n (Some q) h law = (law.0, omega (arith, law.1), law.2, λ j l g. at_top (suc n) j h g (λ less. law.3 j l (omega arith)))

  pub last_law : (n : ℕ) → LastIs f n (last_to f n)
  unfolding last_to
  last_law zero = λ j l g. absurd (omega arith)
  last_law (suc n) =
      cond_both (f (suc n)) (Some (suc n)) (last_to f n) (LastIs f (suc n))
      (λ e. (omega arith, omega arith, e, λ j l g. absurd (omega arith)))
      (λ e. last_up n _ e (last_law n))

  last_only : (n : ℕ) (r t : Option ℕ) → LastIs f n r → LastIs f n t → r ≡ t
  last_only n None None a b = refl
  last_only n None (Some q) a b = absurd (both_ways _ (a q b.0 b.1) b.2)
  last_only n (Some q) None a b = absurd (both_ways _ (b q a.0 a.1) a.2)
  last_only n (Some q) (Some t) a b =
      ⊎_elim (λ e. ap Some e)
      (⊎_elim (λ less. absurd (both_ways _ (a.3 t less b.1) b.2)) (λ more. absurd (both_ways _ (b.3 q more a.1) a.2)))
      (cases_order q t)

  pub last_by : (n : ℕ) (r : Option ℕ) → LastIs f n r → r ≡ last_to f n
  last_by n r law = last_only n r (last_to f n) law (last_law n)

  -- ---- how many

  pub count_none : count_to f 0 ≡ 0
  unfolding count_to
  count_none = refl

  pub count_here : (n : ℕ) → f (suc n) ≡ true → count_to f (suc n) ≡ suc (count_to f n)
  unfolding count_to
  count_here n e = ap (λ x. x + count_to f n) (cond-true (f (suc n)) 1 0 e) ∙ omega arith

  pub count_on : (n : ℕ) → f (suc n) ≡ false → count_to f (suc n) ≡ count_to f n
  unfolding count_to
  count_on n e = ap (λ x. x + count_to f n) (cond-false (f (suc n)) 1 0 e) ∙ omega arith

  pub count_le : (n : ℕ) → count_to f n ≤ n
  count_le zero = omega (arith, count_none)
  count_le (suc n) =
      let less = count_le n in
      ⊎_elim (λ e. omega (arith, count_here n e)) (λ e. omega (arith, count_on n e)) (cases_Bool (f (suc n)))

  count_grows : (n d : ℕ) → count_to f n ≤ count_to f (n + d)
  count_grows n zero = let same : n + zero ≡ n = omega arith in omega (arith, ap (count_to f) same)
  count_grows n (suc d) =
      let same : n + suc d ≡ suc (n + d) = omega arith in
      let e = ap (count_to f) same in
      let less = count_grows n d in
      ⊎_elim (λ h. omega (arith, count_here (n + d) h)) (λ h. omega (arith, count_on (n + d) h)) (cases_Bool (f (suc (n + d))))

  pub count_mono : (n m : ℕ) → n ≤ m → count_to f n ≤ count_to f m
  count_mono n m l = let same : n + (m - n) ≡ m = omega arith in omega (arith, ap (count_to f) same, count_grows n (m - n))

  -- one that passes is counted
  pub count_at : (q : ℕ) → 1 ≤ q → f q ≡ true → count_to f q ≡ suc (count_to f (q - 1))
  count_at q l e =
      let same : suc (q - 1) ≡ q = omega arith in
      ap (count_to f) (sym same) ∙ count_here (q - 1) (ap f same ∙ e)

  pub count_less : (p q : ℕ) → p < q → f q ≡ true → count_to f p < count_to f q
  count_less p q l e = omega (arith, count_at q (omega arith) e, count_mono p (q - 1) (omega arith))

  -- where none passes nothing is counted
  count_still : (u d : ℕ) → ((j : ℕ) → u < j → j ≤ u + d → f j ≡ false) → count_to f (u + d) ≡ count_to f u
  count_still u zero h = let same : u + zero ≡ u = omega arith in ap (count_to f) same
  count_still u (suc d) h =
      let same : u + suc d ≡ suc (u + d) = omega arith in
      ap (count_to f) same ∙ count_on (u + d) (h (suc (u + d)) (omega arith) (omega arith)) ∙ count_still u d (λ j l g. h j l (omega arith))

  pub count_without : (u n : ℕ) → u ≤ n → ((j : ℕ) → u < j → j ≤ n → f j ≡ false) → count_to f n ≡ count_to f u
  count_without u n l h =
      let same : u + (n - u) ≡ n = omega arith in
      ap (count_to f) (sym same) ∙ count_still u (n - u) (λ j a b. h j a (omega arith))

  pub count_beyond : (u n : ℕ) → u ≤ n → ((j : ℕ) → u < j → f j ≡ false) → count_to f n ≡ count_to f u
  count_beyond u n l h = count_without u n l (λ j a b. h j a)

-- those that pass and those that do not are all
module _ (f : ℕ → Bool) where
  pub count_others : (n : ℕ) → count_to (λ j. not (f j)) n + count_to f n ≡ n
  count_others zero = omega (arith, count_none (λ j. not (f j)), count_none f)
  count_others (suc n) =
      let all = count_others n in
      ⊎_elim
      (λ e. omega (arith, count_on (λ j. not (f j)) n (ap not e), count_here f n e))
      (λ e. omega (arith, count_here (λ j. not (f j)) n (ap not e), count_on f n e))
      (cases_Bool (f (suc n)))

-- ---- the k-th

module _ (f : ℕ → Bool) where
  -- each number up to the count is reached
  reached : (n k : ℕ) → 1 ≤ k → k ≤ count_to f n → (q : ℕ) × ((1 ≤ q) × (q ≤ n) × (f q ≡ true) × (count_to f q ≡ k))
  reached zero k l h = absurd (omega (arith, count_none f))
  reached (suc n) k l h =
      ⊎_elim
      (λ e. ⊎_elim
      (λ less. let on = reached n k l (omega (arith, count_here f n e)) in (on.0, (on.1.0, omega (arith, on.1.1), on.1.2, on.1.3)))
      (λ more. (suc n, (omega arith, omega arith, e, omega arith)))
      (cases_lt k (count_to f (suc n))))
      (λ e. let on = reached n k l (omega (arith, count_on f n e)) in (on.0, (on.1.0, omega (arith, on.1.1), on.1.2, on.1.3)))
      (cases_Bool (f (suc n)))

  kth_from : (k n : ℕ) (r : Option ℕ) → FirstIs (λ b. f b && eqb (count_to f b) k) 1 n r → KthIs f k n r
  kth_from k n None law =
      ⊎_elim
      (λ zero'. inl (omega arith))
      (λ some. ⊎_elim
      (λ less. inr less)
      (λ more. let q = reached n k some more in absurd (both_ways _ (law q.0 q.1.0 (omega (arith, q.1.1))) (and_from _ _ q.1.2 (eq-eqb _ k q.1.3))))
      (cases_lt (count_to f n) k))
      (cases_lt k 1)
  kth_from k n (Some q) law = let parts = and_parts _ _ law.2 in (law.0, omega (arith, law.1), parts.0, eqb-true _ k parts.1)

  pub kth_law : (k n : ℕ) → KthIs f k n (kth_to f k n)
  unfolding kth_to
  kth_law k n = kth_from k n _ (first_law (λ b. f b && eqb (count_to f b) k) 1 n)

  kth_not : (k n q : ℕ) → KthIs f k n None → KthIs f k n (Some q) → ⊥
  kth_not k n q none some =
      let here = count_at f q some.0 some.2 in
      let high = count_mono f q n some.1 in
      ⊎_elim (λ z. omega (arith, some.3)) (λ l. omega (arith, some.3)) none

  kth_only : (k n : ℕ) (r t : Option ℕ) → KthIs f k n r → KthIs f k n t → r ≡ t
  kth_only k n None None a b = refl
  kth_only k n None (Some q) a b = absurd (kth_not k n q a b)
  kth_only k n (Some q) None a b = absurd (kth_not k n q b a)
  kth_only k n (Some q) (Some t) a b =
      ⊎_elim (λ e. ap Some e)
      (⊎_elim (λ less. absurd (omega (arith, count_less f q t less b.2, a.3, b.3))) (λ more. absurd (omega (arith, count_less f t q more a.2, a.3, b.3))))
      (cases_order q t)

  pub kth_by : (k n : ℕ) (r : Option ℕ) → KthIs f k n r → r ≡ kth_to f k n
  kth_by k n r law = kth_only k n r (kth_to f k n) law (kth_law k n)

-- ---- two tests that agree

module _ (f g : ℕ → Bool) where
  pub first_agree : (p n : ℕ) → ((j : ℕ) → p ≤ j → j < p + n → f j ≡ g j) → first_from f p n ≡ first_from g p n
  unfolding first_from
  first_agree p zero same = refl
  first_agree p (suc n) same =
      let here = same p (omega arith) (omega arith) in
      let on = first_agree (suc p) n (λ j l h. same j (omega arith) (omega arith)) in
      λ i. cond (here i) (Some p) (on i)

  pub last_agree : (n : ℕ) → ((j : ℕ) → 1 ≤ j → j ≤ n → f j ≡ g j) → last_to f n ≡ last_to g n
  unfolding last_to
  last_agree zero same = refl
  last_agree (suc n) same =
      let here = same (suc n) (omega arith) (omega arith) in
      let on = last_agree n (λ j l h. same j l (omega arith)) in
      λ i. cond (here i) (Some (suc n)) (on i)

  pub count_agree : (n : ℕ) → ((j : ℕ) → 1 ≤ j → j ≤ n → f j ≡ g j) → count_to f n ≡ count_to g n
  unfolding count_to
  count_agree zero same = refl
  count_agree (suc n) same =
      let here = same (suc n) (omega arith) (omega arith) in
      let on = count_agree n (λ j l h. same j l (omega arith)) in
      λ i. cond (here i) 1 0 + on i

module _ (f g : ℕ → Bool) where
  pub kth_agree : (k n : ℕ) → ((j : ℕ) → 1 ≤ j → j ≤ n → f j ≡ g j) → kth_to f k n ≡ kth_to g k n
  unfolding kth_to
  kth_agree k n same =
      first_agree (λ b. f b && eqb (count_to f b) k) (λ b. g b && eqb (count_to g b) k) 1 n
      (λ j l h.
      let here = same j l (omega arith) in
      let to = count_agree f g j (λ i a b. same i a (omega arith)) in
      λ i. here i && eqb (to i) k)

-- ---- the first and the last by their number

module _ (f : ℕ → Bool) where
  pub first_kth : (i n : ℕ) → 1 ≤ i → first_from f i (suc n - i) ≡ kth_to f (suc (count_to f (i - 1))) n
  first_kth i n l = kth_by f _ n _ (numbered (first_from f i (suc n - i)) (first_law f i (suc n - i)))
    where
      numbered : (r : Option ℕ) → FirstIs f i (suc n - i) r → KthIs f (suc (count_to f (i - 1))) n r
      numbered None law = inr (⊎_elim
          (λ less. omega (arith, count_mono f n (i - 1) (omega arith)))
          (λ more. omega (arith, count_without f (i - 1) n (omega arith) (λ j a b. law j (omega arith) (omega arith))))
          (cases_lt n i))
      numbered (Some q) law =
          let here = count_at f q (omega (arith, law.0)) law.2 in
          let none = count_without f (i - 1) (q - 1) (omega (arith, law.0)) (λ j a b. law.3 j (omega arith) (omega arith)) in
          (omega (arith, law.0), omega (arith, law.0, law.1), law.2, omega (arith, here, none))

  pub last_kth : (i n : ℕ) → i ≤ n → last_to f i ≡ kth_to f (count_to f i) n
  last_kth i n l = kth_by f _ n _ (numbered (last_to f i) (last_law f i))
    where
      numbered : (r : Option ℕ) → LastIs f i r → KthIs f (count_to f i) n r
      numbered None law = inl (omega (arith, count_none f, count_without f 0 i (omega arith) (λ j a b. law j a b)))
      numbered (Some q) law =
          (law.0, omega (arith, law.1), law.2, sym (count_without f q i law.1 (λ j a b. law.3 j a b)))
