-- What is asked of a set made by a test is asked of the test.
use Rattle.std.proofs.Common.{◌≡◌, ℕ, suc, ◌-◌, ◌<◌, ◌≤◌, min, max, Bool, false, List, length, sym, ap, ◌∙◌, ⊎_elim, arith}
use Rattle.std.proofs.lemmas.List.FromFn.{get_or-map-range_with_len}
use Rattle.std.proofs.lemmas.Bool.{cases_lt}
use Rattle.sets.specs.declared.Sort.{Sort}
use Rattle.sets.specs.declared.Sort.TheVariants.{Members}
use Rattle.sets.specs.Search.{first_from, last_to, count_to, kth_to}
use Rattle.sets.specs.Sets.{is, is_member, fits, share, next_of, previous_of, rank_of, select_of}
use Rattle.sets.specs.Made.{set_by, made_length, MadeBy, of_sort}
use Rattle.sets.proofs.Bays.{is_inside, is_beyond, is_none}
use Rattle.sets.proofs.Only.{next_zero, previous_beyond, rank_beyond}
use Rattle.sets.proofs.Same.{sets_by_members}
use Rattle.sets.proofs.Tests.{first_agree, last_agree, count_agree, kth_agree}
use Rattle.sets.proofs.Sharing.{count_share}

module _ (u : ℕ) (f : ℕ → Bool) where
  pub made_is : (k : Sort) (i : ℕ) → 1 ≤ i → i ≤ u → is (set_by u f) k i ≡ of_sort k f i
  unfolding set_by
  made_is k i h l =
      let at : suc (i - 1) ≡ i = omega arith in
      is_inside (set_by u f) k i h (omega (arith, made_length u f))
      ∙ ap (fits k) (get_or-map-range_with_len (λ j. f (suc j)) 0 u (i - 1) (i - 1) false (omega arith) (omega arith))
      ∙ ap (of_sort k f) at

  pub made_by : MadeBy u f (set_by u f)
  made_by = (made_length u f, λ i l h. made_is Members i l h)

  pub made_outside : (k : Sort) (i : ℕ) → u < i → is (set_by u f) k i ≡ false
  made_outside k i h = is_beyond (set_by u f) k i (omega (arith, made_length u f))

  next_inside : (k : Sort) (i : ℕ) → 1 ≤ i → first_from (of_sort k f) i (suc u - i) ≡ next_of (set_by u f) k i
  unfolding next_of
  next_inside k i h =
      sym (first_agree (is (set_by u f) k) (of_sort k f) i (suc u - i) (λ j l g. made_is k j (omega arith) (omega arith)))
      ∙ ap (λ (n : ℕ). first_from (is (set_by u f) k) i (suc n - i)) (sym (made_length u f))

  -- 0 is read as 1
  pub made_next : (k : Sort) (i : ℕ) → first_from (of_sort k f) (max i 1) (suc u - max i 1) ≡ next_of (set_by u f) k i
  made_next k i =
      ⊎_elim
      (λ z.
      let zero' : i ≡ 0 = omega arith in
      let one : max i 1 ≡ 1 = omega arith in
      ap (λ (n : ℕ). first_from (of_sort k f) n (suc u - n)) one ∙ next_inside k 1 (omega arith)
      ∙ sym (next_zero (set_by u f) k) ∙ ap (next_of (set_by u f) k) (sym zero'))
      (λ some.
      let same : max i 1 ≡ i = omega arith in
      ap (λ (n : ℕ). first_from (of_sort k f) n (suc u - n)) same ∙ next_inside k i some)
      (cases_lt i 1)

  -- beyond the last bay is read as the last
  to_last : {A : Type 0} (ask : ℕ → A) (i : ℕ) → (length (set_by u f) ≤ i → ask i ≡ ask (length (set_by u f))) → ask (min i u) ≡ ask i
  to_last ask i beyond =
      let long = made_length u f in
      ⊎_elim
      (λ within. let same : min i u ≡ i = omega arith in ap ask same)
      (λ past. let same : min i u ≡ length (set_by u f) = omega arith in ap ask same ∙ sym (beyond (omega arith)))
      (cases_lt i u)

  pub made_previous : (k : Sort) (i : ℕ) → last_to (of_sort k f) (min i u) ≡ previous_of (set_by u f) k i
  unfolding previous_of
  made_previous k i =
      sym (last_agree (is (set_by u f) k) (of_sort k f) (min i u) (λ j l g. made_is k j l (omega arith)))
      ∙ to_last (previous_of (set_by u f) k) i (previous_beyond (set_by u f) k i)

  pub made_rank : (k : Sort) (i : ℕ) → count_to (of_sort k f) (min i u) ≡ rank_of (set_by u f) k i
  unfolding rank_of
  made_rank k i =
      sym (count_agree (is (set_by u f) k) (of_sort k f) (min i u) (λ j l g. made_is k j l (omega arith)))
      ∙ to_last (rank_of (set_by u f) k) i (rank_beyond (set_by u f) k i)

  -- of the first bays, as many of a sort as its share is, where n of them are members
  pub made_share : (k : Sort) (i n : ℕ) → n ≡ count_to f (min i u) → share k n (min i u) ≡ rank_of (set_by u f) k i
  made_share k i n e = ap (λ m. share k m (min i u)) e ∙ sym (count_share f k (min i u)) ∙ made_rank k i

  pub made_select : (k : Sort) (n : ℕ) → kth_to (of_sort k f) n u ≡ select_of (set_by u f) k n
  unfolding select_of
  made_select k n =
      sym (kth_agree (is (set_by u f) k) (of_sort k f) n u (λ j l g. made_is k j l g))
      ∙ ap (kth_to (is (set_by u f) k) n) (sym (made_length u f))

-- a test that says of each bay whether it is a member makes the set itself
pub made_again : (s : List Bool) (f : ℕ → Bool) → ((i : ℕ) → 1 ≤ i → i ≤ length s → f i ≡ is_member s i) → set_by (length s) f ≡ s
made_again s f h =
    let u = length s in
    sets_by_members (set_by u f) s (made_length u f) (λ i.
    ⊎_elim
    (λ none. is_none (set_by u f) Members i (omega arith) ∙ sym (is_none s Members i (omega arith)))
    (λ some. ⊎_elim
    (λ past. made_outside u f Members i past ∙ sym (is_beyond s Members i past))
    (λ within. made_is u f Members i some within ∙ h i some within)
    (cases_lt u i))
    (cases_lt i 1))
