-- How many members have come, bay by bay, and the bays behind the members.
use Rattle.std.proofs.Common.{◌≡◌, ℕ, suc, ◌+◌, ◌-◌, ◌≤◌, Bool, true, false, not, List, length, Some, Option, unwrap_or, sym, refl, ap, ◌∙◌, arith}
use Rattle.sets.specs.declared.Sort.TheVariants.{Members}
use Rattle.sets.specs.Search.{count_to}
use Rattle.sets.specs.Sets.{is_member, rank_of, select_of}
use Rattle.sets.proofs.Bays.{is_bay}
use Rattle.sets.proofs.Only.{rank_mono}
use Rattle.sets.proofs.Tests.{count_none, count_at, count_on, count_le, kth_by}
use Rattle.pioneer.specs.Filling.{count_of, ends}

module _ (s : List Bool) where
  pub rank_none : 0 ≡ rank_of s Members 0
  unfolding rank_of
  rank_none = sym (count_none (is_member s))

  pub rank_low : (i : ℕ) → rank_of s Members i ≤ i
  unfolding rank_of
  rank_low i = count_le (is_member s) i

  pub rank_most : (i : ℕ) → i ≤ length s → rank_of s Members i ≤ count_of s
  rank_most i h = rank_mono s Members i (length s) h

  -- bay i is a member, or it is none
  pub rank_here : (i : ℕ) → 1 ≤ i → true ≡ is_member s i → rank_of s Members (i - 1) + 1 ≡ rank_of s Members i
  unfolding rank_of
  rank_here i l e = omega (arith, count_at (is_member s) i l (sym e))

  pub rank_past : (i : ℕ) → 1 ≤ i → false ≡ is_member s i → rank_of s Members (i - 1) ≡ rank_of s Members i
  unfolding rank_of
  rank_past i l e =
      let same : suc (i - 1) ≡ i = omega arith in
      sym (ap (count_to (is_member s)) (sym same) ∙ count_on (is_member s) (i - 1) (ap (is_member s) same ∙ sym e))

  -- whether a run ends with the member of this number
  pub ends_at : (i : ℕ) → is_member s i ≡ true → ends s (rank_of s Members i) ≡ not (is_member s (i + 1))
  unfolding rank_of select_of
  ends_at i e =
      let bay = is_bay s Members i e in
      let at : Some i ≡ select_of s Members (rank_of s Members i) = kth_by (is_member s) _ (length s) (Some i) (bay.0, bay.1, e, refl) in
      ap (λ (o : Option ℕ). not (is_member s (unwrap_or o 0 + 1))) (sym at)

  -- member i comes after k others
  pub next_member : (i k : ℕ) → 1 ≤ i → k ≡ rank_of s Members (i - 1) → true ≡ is_member s i → (k + 1 ≡ rank_of s Members i) × (ends s (k + 1) ≡ not (is_member s (i + 1)))
  next_member i k l e m =
      let number : k + 1 ≡ rank_of s Members i = omega (arith, rank_here i l m) in
      (number, ap (ends s) number ∙ ends_at i (sym m))
