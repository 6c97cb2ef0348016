-- What is asked of the set is asked of the places up to the last bay.
use Rattle.std.proofs.Common.{◌≡◌, ℕ, suc, ◌-◌, ◌<◌, ◌≤◌, max, Bool, leb, ◌⊎◌, Some, None, Option, ap, ◌∙◌, arith}
use Rattle.std.proofs.lemmas.Bool.{cond_both, leb-true, leb-false}
use Rattle.sets.specs.declared.Sort.{Sort}
use Rattle.sets.specs.Search.{first_from, count_to, kth_to}
use Rattle.sets.specs.Sets.{next_of, select_of}
use Rattle.sets.proofs.Made.{made_next, made_select}
use Rattle.sets.proofs.Tests.{FirstIs, first_law, first_by, kth_by}
use Rattle.zombit.specs.Meant.{meaning, bays, places, sorted, first_place, cut_at}
use Rattle.zombit.specs.declared.index.Zombit.{Zombit}
use Rattle.zombit.proofs.Counted.{cut_kth}
use Rattle.zombit.proofs.Indexed.{places_cover}

-- the first up to n, cut at u
cut_first : (f : ℕ → Bool) (p u n : ℕ) → u ≤ n → cut_at u (first_from f p (suc n - p)) ≡ first_from f p (suc u - p)
cut_first f p u n l = cut (first_from f p (suc n - p)) (first_law f p (suc n - p))
  where
    cut : (r : Option ℕ) → FirstIs f p (suc n - p) r → cut_at u r ≡ first_from f p (suc u - p)
    cut None law = first_by f p (suc u - p) None (λ j a b. law j a (omega arith))
    cut (Some q) law =
        let low = law.0 in
        cond_both (leb q u) (Some q) None (λ r. r ≡ first_from f p (suc u - p))
        (λ e. let high = leb-true q u e in first_by f p _ (Some q) (low, omega arith, law.2, law.3))
        (λ e. let high = leb-false q u e in first_by f p _ None (λ j a b. law.3 j a (omega arith)))

module _ (z : Zombit) (sort : Sort) where
  pub next_is : (i : ℕ) → cut_at z.blocks.last (first_place z sort (max i 1)) ≡ next_of (meaning z) sort i
  next_is i = cut_first _ (max i 1) z.blocks.last (places z) (places_cover z) ∙ made_next z.blocks.last (bays z) sort i

  pub select_is : (n : ℕ) → cut_at z.blocks.last (kth_to (sorted z sort) n (places z)) ≡ select_of (meaning z) sort n
  select_is n = cut_kth _ n z.blocks.last (places z) (places_cover z) ∙ made_select z.blocks.last (bays z) sort n

  -- none at 0 and beyond their number
  pub select_none : (n : ℕ) → (n ≡ 0) ⊎ (count_to (sorted z sort) (places z) < n) → None ≡ select_of (meaning z) sort n
  select_none n few = ap (cut_at z.blocks.last) (kth_by (sorted z sort) n (places z) None few) ∙ select_is n
