-- Rank counts: there is a list of the bays that it counts.
use Rattle.std.proofs.Common.{◌≡◌, ℕ, zero, suc, ◌<◌, ◌≤◌, Bool, true, false, List, [], ◌∷◌, ◌++◌, length, sym, refl, ap, ◌∙◌, inl, inr, ⊎_elim, arith, length-append}
use Rattle.std.proofs.lemmas.Bool.{cases_Bool, cases_lt, both_ways}
use Rattle.sets.specs.Lists.{Among, Rising, ListOf}
use Rattle.sets.specs.Search.{count_to}
use Rattle.sets.specs.Sets.{is, rank_of}
use Rattle.sets.specs.Laws.{RankCounts}
use Rattle.sets.proofs.Joins.{any_split, any_left, any_right}
use Rattle.sets.proofs.Tests.{count_none, count_here, count_on}

-- one more at the end
rising_more : (p q : ℕ) (xs : List ℕ) → Rising p xs → p ≤ q → ((x : ℕ) → Among xs x → x < q) → Rising p (xs ++ q ∷ [])
rising_more p q [] r l h = (l, tt)
rising_more p q (x ∷ xs) r l h = (r.0, rising_more (suc x) q xs r.1 (h x (inl refl)) (λ y m. h y (inr m)))

module _ (f : ℕ → Bool) where
  abbrev pub Counted : ℕ → List ℕ → Type 0
  Counted n bays = ListOf (λ j. (j ≤ n) × (f j ≡ true)) bays

  counted_on : (n : ℕ) (bays : List ℕ) → f (suc n) ≡ false → Counted n bays → Counted (suc n) bays
  counted_on n bays e l = record {
    rising = l.rising;
    all = λ j h. l.all j (⊎_elim (λ less. omega arith) (λ more. let same : j ≡ suc n = omega (arith, h.0) in absurd (both_ways _ e (ap f (sym same) ∙ h.1))) (cases_lt j (suc n)), h.1);
    only = λ j m. let h = l.only j m in (omega (arith, h.0), h.1);
  }

  counted_here : (n : ℕ) (bays : List ℕ) → f (suc n) ≡ true → Counted n bays → Counted (suc n) (bays ++ suc n ∷ [])
  counted_here n bays e l = record {
    rising = rising_more 0 (suc n) bays l.rising (omega arith) (λ x m. omega (arith, (l.only x m).0));
    all = λ j h. ⊎_elim
        (λ less. any_left (λ y. j ≡ y) bays (suc n ∷ []) (l.all j (omega arith, h.1)))
        (λ more. any_right (λ y. j ≡ y) bays (suc n ∷ []) (inl (omega (arith, h.0))))
        (cases_lt j (suc n));
    only = λ j m. ⊎_elim
        (λ a. let h = l.only j a in (omega (arith, h.0), h.1))
        (⊎_elim (λ same. (omega arith, ap f same ∙ e)) (λ none. absurd none))
        (any_split (λ y. j ≡ y) bays (suc n ∷ []) m);
  }

  -- where 0 does not pass
  pub counted : f 0 ≡ false → (n : ℕ) → (bays : List ℕ) × (Counted n bays × (length bays ≡ count_to f n))
  counted z zero =
      ([], (record { rising = tt; all = λ j h. let same : j ≡ 0 = omega (arith, h.0) in absurd (both_ways _ z (ap f (sym same) ∙ h.1)); only = λ j m. absurd m }, sym (count_none f)))
  counted z (suc n) =
      let on = counted z n in
      ⊎_elim
      (λ e. (on.0 ++ suc n ∷ [], (counted_here n on.0 e on.1.0, length-append on.0 (suc n ∷ []) ∙ omega (arith, on.1.1, count_here f n e))))
      (λ e. (on.0, (counted_on n on.0 e on.1.0, on.1.1 ∙ sym (count_on f n e))))
      (cases_Bool (f (suc n)))

pub rank_counts : RankCounts
unfolding rank_of is
rank_counts s k i = counted (is s k) refl i
