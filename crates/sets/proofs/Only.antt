-- The laws leave one answer, so an implementation may show the law in the place of following the definition.
use Rattle.std.proofs.Common.{◌≡◌, ℕ, suc, ◌-◌, ◌<◌, ◌≤◌, Bool, true, List, length, Some, None, Option, sym, ap, ◌∙◌, ⊎_elim, arith}
use Rattle.std.proofs.lemmas.Bool.{cases_lt}
use Rattle.sets.specs.declared.Sort.{Sort}
use Rattle.sets.specs.Sets.{is, next_of, previous_of, rank_of, select_of}
use Rattle.sets.specs.Laws.{NextIs, PreviousIs, RankIs, SelectIs, LawsDecide}
use Rattle.sets.proofs.Bays.{is_bay, is_beyond, is_none}
use Rattle.sets.proofs.Lawful.{next_smallest}
use Rattle.sets.proofs.Ranks.{rank_counts}
use Rattle.sets.proofs.Same.{lists_same}
use Rattle.sets.proofs.Tests.{FirstIs, LastIs, KthIs, first_by, last_by, kth_by, count_beyond, last_law, count_mono, count_less}

module _ (s : List Bool) (k : Sort) where
  next_first : (i : ℕ) (r : Option ℕ) → NextIs s k i r → FirstIs (is s k) i (suc (length s) - i) r
  next_first i None law = λ j l h. law j l
  next_first i (Some q) law = let bay = is_bay s k q law.1 in (law.0, omega (arith, bay.1, law.0), law.1, law.2)

  pub next_by : (i : ℕ) (r : Option ℕ) → NextIs s k i r → r ≡ next_of s k i
  unfolding next_of
  next_by i r law = first_by (is s k) i (suc (length s) - i) r (next_first i r law)

  pub next_here : (p : ℕ) → is s k p ≡ true → next_of s k p ≡ Some p
  next_here p e = sym (next_by p (Some p) (omega arith, e, λ j l h. absurd (omega arith)))

  -- 0 is read as 1
  pub next_zero : next_of s k 0 ≡ next_of s k 1
  next_zero = sym (next_by 0 (next_of s k 1) (down (next_of s k 1) (next_smallest s k 1)))
    where
      down : (r : Option ℕ) → NextIs s k 1 r → NextIs s k 0 r
      down None law = λ j l. ⊎_elim (λ z. is_none s k j (omega arith)) (λ some. law j some) (cases_lt j 1)
      down (Some q) law = (omega arith, law.1, λ j l h. ⊎_elim (λ z. is_none s k j (omega arith)) (λ some. law.2 j some h) (cases_lt j 1))

  previous_last : (i : ℕ) (r : Option ℕ) → PreviousIs s k i r → LastIs (is s k) i r
  previous_last i None law = λ j l h. law j h
  previous_last i (Some q) law = ((is_bay s k q law.1).0, law.0, law.1, law.2)

  pub previous_by : (i : ℕ) (r : Option ℕ) → PreviousIs s k i r → r ≡ previous_of s k i
  unfolding previous_of
  previous_by i r law = last_by (is s k) i r (previous_last i r law)

  select_kth : (n : ℕ) (r : Option ℕ) → SelectIs s k n r → KthIs (is s k) n (length s) r
  unfolding rank_of
  select_kth n None law = law
  select_kth n (Some q) law = let bay = is_bay s k q law.0 in (bay.0, bay.1, law.0, law.1)

  pub select_by : (n : ℕ) (r : Option ℕ) → SelectIs s k n r → r ≡ select_of s k n
  unfolding select_of
  select_by n r law = kth_by (is s k) n (length s) r (select_kth n r law)

  rank_by : (i n : ℕ) → RankIs s k i n → n ≡ rank_of s k i
  rank_by i n law =
      let due = rank_counts s k i in
      let a = law.1.0 in
      let b = due.1.0 in
      let same = lists_same 0 0 law.0 due.0 a.rising b.rising (λ j m. b.all j (a.only j m)) (λ j m. a.all j (b.only j m)) in
      sym law.1.1 ∙ ap length same ∙ due.1.1

  pub rank_beyond : (i : ℕ) → length s ≤ i → rank_of s k i ≡ rank_of s k (length s)
  unfolding rank_of
  rank_beyond i h = count_beyond (is s k) (length s) i h (λ j l. is_beyond s k j l)

  pub rank_mono : (p q : ℕ) → p ≤ q → rank_of s k p ≤ rank_of s k q
  unfolding rank_of
  rank_mono p q l = count_mono (is s k) p q l

  pub rank_less : (p q : ℕ) → p < q → is s k q ≡ true → rank_of s k p < rank_of s k q
  unfolding rank_of
  rank_less p q l e = count_less (is s k) p q l e

  -- beyond the last bay is read as the last
  pub previous_beyond : (i : ℕ) → length s ≤ i → previous_of s k i ≡ previous_of s k (length s)
  unfolding previous_of
  previous_beyond i h = sym (last_by (is s k) i (previous_of s k (length s)) (up _ (last_law (is s k) (length s))))
    where
      up : (r : Option ℕ) → LastIs (is s k) (length s) r → LastIs (is s k) i r
      up None law = λ j l g. ⊎_elim (λ beyond. is_beyond s k j beyond) (λ within. law j l within) (cases_lt (length s) j)
      up (Some q) law = (law.0, omega (arith, law.1), law.2, λ j l g. ⊎_elim (λ beyond. is_beyond s k j beyond) (λ within. law.3 j l within) (cases_lt (length s) j))

pub laws_decide : LawsDecide
laws_decide s k i = (next_by s k i, previous_by s k i, rank_by s k i, select_by s k i)
