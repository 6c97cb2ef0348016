-- The walk ends at the first common bay.
use Rattle.std.proofs.Common.{◌≡◌, ℕ, zero, suc, ◌+◌, ◌-◌, ◌<◌, ◌≤◌, Bool, false, List, Some, None, Option, sym, ap, ◌∙◌, subst, ⊎_elim, arith}
use Rattle.std.proofs.lemmas.Bool.{and_left, and_right, cases_Bool, cases_lt}
use Rattle.round.specs.declared.walk.Walked.{Walked}
use Rattle.round.specs.Machine.{end, common, larger, walk, next_from}
use Rattle.round.specs.Handed.{HandedIs}
use Rattle.round.proofs.Walks.{larger_past, larger_end, walk_end, walk_here, walk_on}
use Rattle.round.proofs.Greedy.{larger_lawful}

module _ (f c : List Bool) where
  -- a stretch from a bay that is not common passes no common bay
  pub passes_none : (p j : ℕ) → p ≤ end f c → common f c p ≡ false → p ≤ j → j < larger f c p → common f c j ≡ false
  unfolding common
  passes_none p j l e from to =
      ⊎_elim
      (λ out. and_left _ _ (out j from to))
      (⊎_elim
      (λ out. and_right _ _ (out j from to))
      (λ one. let same : j ≡ p = omega (arith, one.0) in ap (common f c) same ∙ e))
      (larger_lawful f c p (larger_past f c p l e)).1

  -- what is found from q on is found from p on, if there is nothing between
  back : (p q : ℕ) (bay : Option ℕ) (place : ℕ) → p ≤ q → q ≤ suc (end f c) → ((j : ℕ) → p ≤ j → j < q → common f c j ≡ false) → HandedIs f c q bay place → HandedIs f c p bay place
  back p q None place l t out is = (λ j from to. ⊎_elim (λ before. out j from before) (λ after. is.0 j after to) (cases_lt j q), omega (arith, is.1))
  back p q (Some b) place l t out is =
      (omega (arith, is.0), is.1, is.2, λ j from to. ⊎_elim (λ before. out j from before) (λ after. is.3 j after to) (cases_lt j q), is.4)

  abbrev Ends : ℕ → Walked → Type 0
  Ends p r = HandedIs f c p r.taken.bay r.place

  walk_ends : (m p n : ℕ) → suc (end f c) ≤ m + p → Ends p (walk f c m p n)
  unfolding walk
  walk_ends zero p n h = (λ j from to. absurd (omega arith), omega arith)
  walk_ends (suc m) p n h =
      ⊎_elim
      (λ beyond. subst (Ends p) (sym (walk_end f c (suc m) p n beyond)) (λ j from to. absurd (omega arith), omega arith))
      (λ within. ⊎_elim
      (λ e. subst (Ends p) (sym (walk_here f c (suc m) p n (omega arith) within e)) (omega arith, within, e, λ j from to. absurd (omega arith), omega arith))
      (λ e.
      let past = larger_past f c p within e in
      let top = larger_end f c p in
      let on = walk f c m (larger f c p) (n + 1) in
      subst (Ends p) (sym (walk_on f c m p n within e))
      (back p (larger f c p) on.taken.bay on.place (omega arith) top (λ j from to. passes_none p j within e from to) (walk_ends m (larger f c p) (n + 1) (omega arith))))
      (cases_Bool (common f c p)))
      (cases_lt (end f c) p)

  pub next_handed : (p : ℕ) → Ends p (next_from f c p)
  unfolding next_from
  next_handed p = walk_ends (suc (end f c) - p) p 0 (omega arith)

  pub handed_at : (p : ℕ) (r : Walked) → r ≡ next_from f c p → HandedIs f c p r.taken.bay r.place
  handed_at p r e = subst (Ends p) (sym e) (next_handed p)
