-- The next and the previous bay of a sort are found by rank and select.
use Rattle.std.proofs.Common.{◌≡◌, ℕ, suc, ◌+◌, ◌-◌, ◌≤◌, min, max, Bool, List, length, sym, ap, ◌∙◌, ⊎_elim, arith}
use Rattle.std.proofs.lemmas.Bool.{cases_lt}
use Rattle.sets.specs.declared.Sort.{Sort}
use Rattle.sets.specs.Sets.{is, next_of, previous_of, rank_of, select_of}
use Rattle.sets.proofs.Only.{next_zero, previous_beyond, rank_beyond}
use Rattle.sets.proofs.Tests.{count_le, first_kth, last_kth}

module _ (s : List Bool) (k : Sort) where
  pub rank_le : (i : ℕ) → rank_of s k i ≤ i
  unfolding rank_of
  rank_le i = count_le (is s k) i

  next_inside : (i : ℕ) → 1 ≤ i → next_of s k i ≡ select_of s k (suc (rank_of s k (i - 1)))
  unfolding next_of select_of rank_of
  next_inside i l = first_kth (is s k) i (length s) l

  pub next_select : (i : ℕ) → next_of s k i ≡ select_of s k (rank_of s k (i - 1) + 1)
  next_select i =
      let one : rank_of s k (i - 1) + 1 ≡ suc (rank_of s k (i - 1)) = omega arith in
      ⊎_elim
      (λ none.
      let zero' : i ≡ 0 = omega arith in
      let same : 1 - 1 ≡ i - 1 = omega arith in
      ap (next_of s k) zero' ∙ next_zero s k ∙ next_inside 1 (omega arith) ∙ ap (λ (n : ℕ). select_of s k (suc (rank_of s k n))) same)
      (λ some. next_inside i some)
      (cases_lt i 1)
      ∙ ap (select_of s k) (sym one)

  previous_inside : (i : ℕ) → i ≤ length s → previous_of s k i ≡ select_of s k (rank_of s k i)
  unfolding previous_of select_of rank_of
  previous_inside i l = last_kth (is s k) i (length s) l

  pub previous_select : (i : ℕ) → previous_of s k i ≡ select_of s k (rank_of s k i)
  previous_select i =
      ⊎_elim
      (λ past.
      previous_beyond s k i (omega arith) ∙ previous_inside (length s) (omega arith) ∙ ap (select_of s k) (sym (rank_beyond s k i (omega arith))))
      (λ within. previous_inside i within)
      (cases_lt (length s) i)

  -- 0 is read as 1
  pub next_from_one : (i : ℕ) → next_of s k (max i 1) ≡ next_of s k i
  next_from_one i =
      ⊎_elim
      (λ none.
      let one : max i 1 ≡ 1 = omega arith in
      let zero' : i ≡ 0 = omega arith in
      ap (next_of s k) one ∙ sym (next_zero s k) ∙ ap (next_of s k) (sym zero'))
      (λ some. let same : max i 1 ≡ i = omega arith in ap (next_of s k) same)
      (cases_lt i 1)

  -- beyond the last bay is read as the last
  pub previous_to_last : (u i : ℕ) → length s ≡ u → previous_of s k (min i u) ≡ previous_of s k i
  previous_to_last u i e =
      ⊎_elim
      (λ past.
      let last : min i u ≡ length s = omega (arith, e) in
      ap (previous_of s k) last ∙ sym (previous_beyond s k i (omega arith)))
      (λ within. let same : min i u ≡ i = omega (arith, e) in ap (previous_of s k) same)
      (cases_lt (length s) i)
