-- Searches that skip numbers of which none passes, and searches for one of two tests.
use Rattle.std.proofs.Common.{◌≡◌, ℕ, suc, ◌-◌, ◌<◌, ◌≤◌, max, Bool, true, false, not, ◌&&◌, Some, None, Option, sym, refl, ap, ◌∙◌, subst, ⊎_elim, arith}
use Rattle.std.proofs.lemmas.Bool.{cases_lt, both_ways}
use Rattle.std.proofs.lemmas.Grind.{common_steps}
use Rattle.std.specs.Option.{unwrap_or, option_or, option_cmp}
use Rattle.std.specs.Ordering.{ord_max, nat_cmp}
use Rattle.sets.specs.Search.{first_from, last_to}
use Rattle.sets.proofs.Tests.{FirstIs, LastIs, first_law, first_by, first_agree, last_law, last_by, last_agree}

-- what a search that was seen says
module _ (f : ℕ → Bool) where
  pub first_is : (p n : ℕ) (r : Option ℕ) → r ≡ first_from f p n → FirstIs f p n r
  first_is p n r e = subst (λ (t : Option ℕ). FirstIs f p n t) (sym e) (first_law f p n)

  pub last_is : (n : ℕ) (r : Option ℕ) → r ≡ last_to f n → LastIs f n r
  last_is n r e = subst (λ (t : Option ℕ). LastIs f n t) (sym e) (last_law f n)

  -- ---- none from p to e, or none after s and up to p

  pub first_hit : (p n q : ℕ) → p ≤ q → q ≤ n → f q ≡ true → ((j : ℕ) → p ≤ j → j < q → f j ≡ false) → first_from f p (suc n - p) ≡ Some q
  first_hit p n q low high hit none = sym (first_by f p (suc n - p) (Some q) (low, omega arith, hit, none))

  pub first_skip : (p e n : ℕ) → p ≤ suc e → ((j : ℕ) → p ≤ j → j ≤ e → f j ≡ false) → first_from f p (suc n - p) ≡ first_from f (suc e) (suc n - suc e)
  first_skip p e n low none = sym (first_by f p (suc n - p) _ (down _ (first_law f (suc e) (suc n - suc e))))
    where
      down : (r : Option ℕ) → FirstIs f (suc e) (suc n - suc e) r → FirstIs f p (suc n - p) r
      down None law = λ j l h. ⊎_elim (λ more. law j more (omega arith)) (λ less. none j l (omega arith)) (cases_lt e j)
      down (Some q) law =
          let from = law.0 in
          let to = law.1 in
          (omega arith, omega arith, law.2, λ j l h. ⊎_elim (λ more. law.3 j more h) (λ less. none j l (omega arith)) (cases_lt e j))

  pub last_hit : (p q : ℕ) → 1 ≤ q → q ≤ p → f q ≡ true → ((j : ℕ) → q < j → j ≤ p → f j ≡ false) → last_to f p ≡ Some q
  last_hit p q low high hit none = sym (last_by f p (Some q) (low, high, hit, none))

  pub last_skip : (s p : ℕ) → s ≤ p → ((j : ℕ) → s < j → j ≤ p → f j ≡ false) → last_to f p ≡ last_to f s
  last_skip s p low none = sym (last_by f p _ (up _ (last_law f s)))
    where
      up : (r : Option ℕ) → LastIs f s r → LastIs f p r
      up None law = λ j l h. ⊎_elim (λ more. none j more h) (λ less. law j l less) (cases_lt s j)
      up (Some q) law =
          let to = law.1 in
          (law.0, omega arith, law.2, λ j l h. ⊎_elim (λ more. none j more h) (λ less. law.3 j l less) (cases_lt s j))

-- ---- where one of two rows has a 0

neither : (a b : Bool) → not a ≡ false → not b ≡ false → not (a && b) ≡ false
neither true b x y = y
neither false b x y = absurd (both_ways _ x refl)

one_left : (a b : Bool) → not a ≡ true → not (a && b) ≡ true
one_left true b x = absurd (both_ways _ refl x)
one_left false b x = refl

one_right : (a b : Bool) → not b ≡ true → not (a && b) ≡ true
one_right true b x = x
one_right false b x = refl

full_right : (a b : Bool) → not b ≡ false → not a ≡ not (a && b)
full_right true b x = sym x
full_right false b x = refl

-- the later of two numbers
later : (k q : ℕ) → ord_max (option_cmp nat_cmp) (Some k) (Some q) ≡ Some (max q k)
later k q = grind (arith, common_steps)

module _ (A B : ℕ → Bool) where
  abbrev a : ℕ → Bool
  a j = not (A j)

  abbrev b : ℕ → Bool
  b j = not (B j)

  abbrev either : ℕ → Bool
  either j = not (A j && B j)

  first_one : (p n : ℕ) → None ≡ first_from b p n → first_from a p n ≡ first_from either p n
  first_one p n e = first_agree a either p n (λ j l h. full_right (A j) (B j) (first_is b p n None e j l h))

  first_left : (p n q k : ℕ) → Some q ≡ first_from b p n → Some k ≡ first_from a p (suc q - p) → Some k ≡ first_from either p n
  first_left p n q k e g =
      let right = first_is b p n (Some q) e in
      let left = first_is a p (suc q - p) (Some k) g in
      let low = right.0 in
      let high = right.1 in
      let from = left.0 in
      let to = left.1 in
      first_by either p n (Some k) (
        left.0,
        omega arith,
        one_left (A k) (B k) left.2,
        λ j l h. neither (A j) (B j) (left.3 j l h) (right.3 j l (omega arith)),
      )

  first_right : (p n q : ℕ) → Some q ≡ first_from b p n → None ≡ first_from a p (suc q - p) → Some q ≡ first_from either p n
  first_right p n q e g =
      let right = first_is b p n (Some q) e in
      let left = first_is a p (suc q - p) None g in
      first_by either p n (Some q) (
        right.0,
        right.1,
        one_right (A q) (B q) right.2,
        λ j l h. neither (A j) (B j) (left j l (omega arith)) (right.3 j l h),
      )

  -- the first of both searches, where the second goes no further than the first has found
  pub first_either : (p n : ℕ) (r m : Option ℕ) → r ≡ first_from b p (suc n - p) → m ≡ first_from a p (suc (unwrap_or r n) - p)
      → option_or m r ≡ first_from either p (suc n - p)
  first_either p n None None e g = g ∙ first_one p _ e
  first_either p n None (Some k) e g = g ∙ first_one p _ e
  first_either p n (Some q) None e g = first_right p _ q e g
  first_either p n (Some q) (Some k) e g = first_left p _ q k e g

  last_one : (n : ℕ) → None ≡ last_to b n → last_to a n ≡ last_to either n
  last_one n e = last_agree a either n (λ j l h. full_right (A j) (B j) (last_is b n None e j l h))

  last_right : (n q : ℕ) → Some q ≡ last_to b n → None ≡ last_to a n → Some q ≡ last_to either n
  last_right n q e g =
      let right = last_is b n (Some q) e in
      let left = last_is a n None g in
      let low = right.0 in
      last_by either n (Some q) (
        right.0,
        right.1,
        one_right (A q) (B q) right.2,
        λ j l h. neither (A j) (B j) (left j (omega arith) h) (right.3 j l h),
      )

  last_both : (n q k m : ℕ) → Some q ≡ last_to b n → Some k ≡ last_to a n → m ≡ max q k → Some m ≡ last_to either n
  last_both n q k m e g same =
      let right = last_is b n (Some q) e in
      let left = last_is a n (Some k) g in
      let low_b = right.0 in
      let high_b = right.1 in
      let low_a = left.0 in
      let high_a = left.1 in
      last_by either n (Some m) (
        omega arith,
        omega arith,
        ⊎_elim
            (λ l. let here : k ≡ m = omega arith in ap either (sym here) ∙ one_left (A k) (B k) left.2)
            (λ l. let here : q ≡ m = omega arith in ap either (sym here) ∙ one_right (A q) (B q) right.2)
            (cases_lt q k),
        λ j l h. neither (A j) (B j) (left.3 j (omega arith) h) (right.3 j (omega arith) h),
      )

  -- the last of both searches
  pub last_either : (n : ℕ) (r m : Option ℕ) → r ≡ last_to b n → m ≡ last_to a n → ord_max (option_cmp nat_cmp) m r ≡ last_to either n
  last_either n None None e g = g ∙ last_one n e
  last_either n None (Some k) e g = g ∙ last_one n e
  last_either n (Some q) None e g = last_right n q e g
  last_either n (Some q) (Some k) e g = later k q ∙ last_both n q k (max q k) e g refl

-- where nothing was found, n is taken
pub found_within : (f : ℕ → Bool) (p n : ℕ) (r : Option ℕ) → r ≡ first_from f p (suc n - p) → unwrap_or r n ≤ n
found_within f p n None e = omega arith
found_within f p n (Some q) e = let law = first_is f p _ (Some q) e in omega (arith, law.0, law.1)
