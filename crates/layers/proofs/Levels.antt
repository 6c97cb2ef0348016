-- What is asked of a level is asked of the set beneath: a is the first and b the last of its bays there.
use Rattle.std.proofs.Common.{◌≡◌, ℕ, ◌+◌, ◌-◌, ◌^◌, ◌<◌, ◌≤◌, min, max, Bool, true, false, List, length, Some, None, Option, sym, ap, ◌∙◌, subst, inl, inr, ⊎_elim, arith}
use Rattle.std.proofs.lemmas.Bool.{cases_lt}
use Rattle.std.proofs.lemmas.Bool.Decides.{nat_tests}
use Rattle.sets.specs.declared.Sort.{Sort}
use Rattle.sets.specs.declared.Sort.TheVariants.{Members}
use Rattle.sets.specs.Laws.{NextIs, PreviousIs, SelectIs}
use Rattle.sets.specs.Sets.{is, fits, is_member, next_of, previous_of, rank_of, select_of, Sized}
use Rattle.sets.specs.Made.{made_length}
use Rattle.sets.proofs.Bays.{is_inside, is_none, is_bay}
use Rattle.sets.proofs.Made.{made_is, made_outside, made_by}
use Rattle.sets.proofs.Lawful.{next_smallest, previous_largest, select_ranks}
use Rattle.sets.proofs.Only.{next_by, previous_by, select_by, rank_beyond, rank_mono, rank_less}
use Rattle.sets.proofs.Tests.{count_le}
use Rattle.layers.specs.Layers.{level, LevelIs, first_in, last_in, level_in, BaysOf}
use Rattle.layers.specs.Lifts.{lifted}
use Rattle.layers.proofs.Shifts.{lift_cases, count_shift}

-- a bay is of a sort by whether it is a member
of_sort_lem : (s : List Bool) (k : Sort) (j : ℕ) → 1 ≤ j → j ≤ length s → fits k (is_member s j) ≡ is s k j
of_sort_lem s k j h l = ap (fits k) (is_inside s Members j h l) ∙ sym (is_inside s k j h l)

rank_le : (s : List Bool) (k : Sort) (q : ℕ) → rank_of s k q ≤ q
unfolding rank_of
rank_le s k q = count_le (is s k) q

module _ (s : List Bool) (a b : ℕ) (bays : BaysOf a b s) (size : Sized s) where
  pub level_length : length (level_in a b s) ≡ b - a + 1
  level_length = made_length (last_in a b s - first_in a s + 1) (λ i. is_member s (first_in a s + i - 1)) ∙ omega arith

  pub level_is : (k : Sort) (j : ℕ) → 1 ≤ j → j ≤ b - a + 1 → is (level_in a b s) k j ≡ is s k (a - 1 + j)
  level_is k j h l =
      let at : first_in a s + j - 1 ≡ a - 1 + j = omega arith in
      made_is (last_in a b s - first_in a s + 1) (λ i. is_member s (first_in a s + i - 1)) k j h (omega arith)
      ∙ ap (λ n. fits k (is_member s n)) at
      ∙ of_sort_lem s k (a - 1 + j) (omega arith) (omega arith)

  pub level_outside : (k : Sort) (j : ℕ) → b - a + 1 < j → is (level_in a b s) k j ≡ false
  level_outside k j h = made_outside (last_in a b s - first_in a s + 1) (λ i. is_member s (first_in a s + i - 1)) k j (omega arith)

  -- what is of no sort beneath is of none in the level
  none_at : (k : Sort) (j : ℕ) → (1 ≤ j → j ≤ b - a + 1 → is s k (a - 1 + j) ≡ false) → is (level_in a b s) k j ≡ false
  none_at k j h =
      ⊎_elim
      (λ z. is_none (level_in a b s) k j (omega arith))
      (λ l. ⊎_elim (λ beyond. level_outside k j beyond) (λ inside. level_is k j l inside ∙ h l inside) (cases_lt (b - a + 1) j))
      (cases_lt j 1)

  -- a bay beneath that lies in the level
  back : (k : Sort) (q : ℕ) → a ≤ q → q ≤ b → is s k q ≡ true → is (level_in a b s) k (q - (a - 1)) ≡ true
  back k q l h e =
      let at : a - 1 + (q - (a - 1)) ≡ q = omega arith in
      level_is k (q - (a - 1)) (omega arith) (omega arith) ∙ ap (is s k) at ∙ e

  pub level_holds : (i x : ℕ) → x ≡ min (a - 1 + i) (2 ^ 32 - 1) → a ≤ x → x ≤ b → is_member s x ≡ is_member (level_in a b s) i
  level_holds i x at low high =
      let exact : x ≡ a - 1 + i = omega arith in
      ap (is_member s) exact ∙ sym (level_is Members i (omega arith) (omega arith))

  pub level_holds_before : (i x : ℕ) → x ≡ min (a - 1 + i) (2 ^ 32 - 1) → x < a → is_member (level_in a b s) i ≡ false
  level_holds_before i x at out = none_at Members i (λ h l. absurd (omega arith))

  pub level_holds_behind : (i x : ℕ) → x ≡ min (a - 1 + i) (2 ^ 32 - 1) → b < x → is_member (level_in a b s) i ≡ false
  level_holds_behind i x at out = none_at Members i (λ h l. absurd (omega arith))

  next_from_lem :
      (k : Sort) (i x : ℕ) (r : Option ℕ)
      → x ≡ min (a - 1 + max i 1) (2 ^ 32 - 1)
      → NextIs s k x r
      → NextIs (level_in a b s) k i (lifted (a - 1) (b - a + 1) r)
  next_from_lem k i x None from law = λ j l. none_at k j (λ h g. law (a - 1 + j) (omega arith))
  next_from_lem k i x (Some q) from law =
      lift_cases (a - 1) (b - a + 1) q (NextIs (level_in a b s) k i)
      (λ l h. (
        omega (arith, law.0),
        back k q (omega arith) (omega arith) law.1,
        λ j g e. none_at k j (λ m n. law.2 (a - 1 + j) (omega arith) (omega arith)),
      ))
      (λ early. absurd (omega (arith, law.0)))
      (λ late. λ j l. none_at k j (λ h g. law.2 (a - 1 + j) (omega arith) (omega arith)))

  pub level_next :
      (k : Sort) (i x : ℕ)
      → x ≡ min (a - 1 + max i 1) (2 ^ 32 - 1)
      → lifted (a - 1) (b - a + 1) (next_of s k x) ≡ next_of (level_in a b s) k i
  level_next k i x from = next_by (level_in a b s) k i _ (next_from_lem k i x (next_of s k x) from (next_smallest s k x))

  previous_from :
      (k : Sort) (i x : ℕ) (r : Option ℕ)
      → x ≡ min (a - 1 + i) b
      → PreviousIs s k x r
      → PreviousIs (level_in a b s) k i (lifted (a - 1) (b - a + 1) r)
  previous_from k i x None to law = λ j l. none_at k j (λ h g. law (a - 1 + j) (omega arith))
  previous_from k i x (Some q) to law =
      lift_cases (a - 1) (b - a + 1) q (PreviousIs (level_in a b s) k i)
      (λ l h. (
        omega (arith, law.0),
        back k q (omega arith) (omega arith) law.1,
        λ j g e. none_at k j (λ m n. law.2 (a - 1 + j) (omega arith) (omega arith)),
      ))
      (λ early. λ j l. none_at k j (λ h g. law.2 (a - 1 + j) (omega arith) (omega arith)))
      (λ late. absurd (omega (arith, law.0)))

  pub level_previous :
      (k : Sort) (i x : ℕ)
      → x ≡ min (a - 1 + i) b
      → lifted (a - 1) (b - a + 1) (previous_of s k x) ≡ previous_of (level_in a b s) k i
  level_previous k i x to = previous_by (level_in a b s) k i _ (previous_from k i x (previous_of s k x) to (previous_largest s k x))

  rank_inside : (k : Sort) (i : ℕ) → i ≤ b - a + 1 → rank_of s k (a - 1) + rank_of (level_in a b s) k i ≡ rank_of s k (a - 1 + i)
  unfolding rank_of
  rank_inside k i h = count_shift (is s k) (is (level_in a b s) k) (a - 1) i (λ j l g. level_is k j l (omega arith))

  pub level_rank : (k : Sort) (i x : ℕ) → x ≡ min (a - 1 + i) b → rank_of s k (a - 1) + rank_of (level_in a b s) k i ≡ rank_of s k x
  level_rank k i x to =
      ⊎_elim
      (λ beyond.
      let at : x ≡ a - 1 + (b - a + 1) = omega arith in
      let all = rank_beyond (level_in a b s) k i (omega (arith, level_length)) ∙ ap (rank_of (level_in a b s) k) level_length in
      ap (λ n. rank_of s k (a - 1) + n) all ∙ rank_inside k (b - a + 1) (omega arith) ∙ ap (rank_of s k) (sym at))
      (λ inside. let at : x ≡ a - 1 + i = omega arith in rank_inside k i inside ∙ ap (rank_of s k) (sym at))
      (cases_lt (b - a + 1) i)

  -- all of the sort in the level are those up to its last bay beneath
  all_inside : (k : Sort) → rank_of s k (a - 1) + rank_of (level_in a b s) k (length (level_in a b s)) ≡ rank_of s k b
  all_inside k = level_rank k _ b (omega (arith, level_length))

  select_from :
      (k : Sort) (n m : ℕ) (r : Option ℕ)
      → m ≡ min (rank_of s k (a - 1) + n) (2 ^ 32 - 1)
      → SelectIs s k m r
      → SelectIs (level_in a b s) k n (lifted (a - 1) (b - a + 1) r)
  select_from k n m None by (inl none) = inl (omega arith)
  select_from k n m None by (inr few) = inr (omega (arith, few, all_inside k, rank_mono s k b (length s) bays.2))
  select_from k n m (Some q) by law =
      let bay = is_bay s k q law.0 in
      let bound : rank_of s k q ≤ 65535 = omega (arith, rank_le s k q, bay.1) in
      lift_cases (a - 1) (b - a + 1) q (SelectIs (level_in a b s) k n)
      (λ l h. (back k q (omega arith) (omega arith) law.0, omega (arith, level_rank k (q - (a - 1)) q (omega arith), law.1, bound)))
      (λ early. inl (omega (arith, law.1, bound, rank_mono s k q (a - 1) early)))
      (λ late. inr (omega (arith, law.1, bound, rank_less s k b q (omega arith) law.0, all_inside k)))

  pub level_select :
      (k : Sort) (n m : ℕ)
      → m ≡ min (rank_of s k (a - 1) + n) (2 ^ 32 - 1)
      → lifted (a - 1) (b - a + 1) (select_of s k m) ≡ select_of (level_in a b s) k n
  level_select k n m by = select_by (level_in a b s) k n _ (select_from k n m (select_of s k m) by (select_ranks s k m))

-- bays of the set in their order are not cut
pub level_by : (s : List Bool) (a b : ℕ) → BaysOf a b s → LevelIs a b s (level_in a b s)
level_by s a b bays =
    let first : first_in a s ≡ a = omega arith in
    let last : last_in a b s ≡ b = omega arith in
    subst (LevelIs a b s) (λ t. level (sym first t) (sym last t) s) (made_by (b - a + 1) (λ i. is_member s (a + i - 1)))

-- what the questions of a level take
pub ruleset levels =
    (nat_tests, level_length, level_holds, level_holds_before, level_holds_behind, level_next, level_previous, level_rank, rank_mono, level_select)
