-- The next and the previous of the others: at a bay or at once beside it, or by their number.
use Rattle.std.proofs.Common.{◌≡◌, ℕ, suc, ◌+◌, ◌-◌, ◌<◌, ◌≤◌, min, max, Bool, true, false, leb, ltb, not, List, Some, None, refl, sym, ap, ◌∙◌, ⊎_elim, arith}
use Rattle.std.specs.Bool.{then_some}
use Rattle.std.proofs.lemmas.Bool.{cases_lt, le-leb, lt-leb, lt-ltb, le-ltb}
use Rattle.sets.specs.declared.Sort.TheVariants.{Others}
use Rattle.sets.specs.Made.{of_sort}
use Rattle.sets.specs.Search.{first_from, last_to, count_to}
use Rattle.sets.specs.Sets.{next_of, previous_of, rank_of, select_of}
use Rattle.sets.proofs.Made.{made_next, made_previous, made_share}
use Rattle.sets.proofs.Tests.{first_by, last_by, count_at}
use Rattle.list.specs.Decoding.{is_among, set_of}
use Rattle.list.proofs.Asked.{next_select, previous_select}

module _ (u : ℕ) (ns : List ℕ) where
  abbrev among : ℕ → Bool
  among = is_among ns

  abbrev other : ℕ → Bool
  other = of_sort Others (is_among ns)

  -- ---- the next

  next_among : (from : ℕ) → 1 ≤ from → first_from other from (suc u - from) ≡ next_of (set_of u ns) Others from
  next_among from one =
      let same : max from 1 ≡ from = omega arith in
      sym (ap (λ (n : ℕ). first_from other n (suc u - n)) same) ∙ made_next u among Others from

  -- it is this bay, where no bay from the first on is among the others before it
  pub next_is : (from bay : ℕ) → 1 ≤ from → from ≤ bay → among bay ≡ false → ((j : ℕ) → from ≤ j → j < bay → among j ≡ true)
      → then_some (leb bay u) bay ≡ next_of (set_of u ns) Others from
  next_is from bay one low here before =
      ⊎_elim
      (λ past.
      ap (λ b. then_some b bay) (lt-leb bay u past)
      ∙ first_by other from (suc u - from) None (λ j l h. ap not (before j l (omega arith))))
      (λ within.
      ap (λ b. then_some b bay) (le-leb bay u within)
      ∙ first_by other from (suc u - from) (Some bay) (low, omega arith, ap not here, λ j l h. ap not (before j l h)))
      (cases_lt u bay)
      ∙ next_among from one

  -- at a member, it is known by its number
  pub next_far : (from members : ℕ) → 1 ≤ from → from ≤ u → among from ≡ true → members ≡ count_to among from
      → select_of (set_of u ns) Others (from - members + 1) ≡ next_of (set_of u ns) Others from
  next_far from members one last here count =
      let least : min (from - 1) u ≡ from - 1 = omega arith in
      let rank : from - 1 - count_to among (from - 1) ≡ rank_of (set_of u ns) Others (from - 1) =
      ap (λ (n : ℕ). n - count_to among n) (sym least) ∙ made_share u among Others (from - 1) (count_to among (min (from - 1) u)) refl in
      let same : from - members ≡ from - 1 - count_to among (from - 1) = omega (arith, count, count_at among from one here) in
      ap (λ (n : ℕ). select_of (set_of u ns) Others (n + 1)) (same ∙ rank) ∙ sym (next_select (set_of u ns) Others from)

  -- ---- the previous

  previous_among : (to : ℕ) → to ≤ u → last_to other to ≡ previous_of (set_of u ns) Others to
  previous_among to last =
      let same : min to u ≡ to = omega arith in
      sym (ap (last_to other) same) ∙ made_previous u among Others to

  pub previous_is : (to bay : ℕ) → to ≤ u → bay ≤ to → among bay ≡ false → ((j : ℕ) → bay < j → j ≤ to → among j ≡ true)
      → then_some (ltb 0 bay) bay ≡ previous_of (set_of u ns) Others to
  previous_is to bay last high here behind =
      ⊎_elim
      (λ none.
      ap (λ b. then_some b bay) (le-ltb 0 bay (omega arith))
      ∙ last_by other to None (λ j l h. ap not (behind j (omega arith) h)))
      (λ some.
      ap (λ b. then_some b bay) (lt-ltb 0 bay some)
      ∙ last_by other to (Some bay) (some, high, ap not here, λ j l h. ap not (behind j l h)))
      (cases_lt bay 1)
      ∙ previous_among to last

  pub previous_far : (to members : ℕ) → to ≤ u → members ≡ count_to among to
      → select_of (set_of u ns) Others (to - members) ≡ previous_of (set_of u ns) Others to
  previous_far to members last count =
      let least : min to u ≡ to = omega arith in
      let rank : to - count_to among to ≡ rank_of (set_of u ns) Others to =
      ap (λ (n : ℕ). n - count_to among n) (sym least) ∙ made_share u among Others to (count_to among (min to u)) refl in
      ap (λ (n : ℕ). select_of (set_of u ns) Others n) (ap (λ (m : ℕ). to - m) count ∙ rank) ∙ sym (previous_select (set_of u ns) Others to)
