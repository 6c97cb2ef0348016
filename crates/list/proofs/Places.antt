-- Where a rising list is cut by a number, and how many members there are up to a bay.
use Rattle.std.proofs.Common.{◌≡◌, ℕ, zero, suc, ◌+◌, ◌-◌, ◌<◌, ◌≤◌, false, List, length, get_or, ap, ◌∙◌, ⊎_elim, arith}
use Rattle.std.proofs.lemmas.Bool.{cases_lt}
use Rattle.sets.specs.Search.{count_to}
use Rattle.sets.proofs.Tests.{count_none, count_at, count_le, count_without}
use Rattle.list.specs.Decoding.{is_among}
use Rattle.list.specs.Places.{Inside, Climbs, Cut}
use Rattle.list.proofs.Members.{among_at, not_among}

-- the number is not in the list, and place k is where it would stand
abbrev pub Between : List ℕ → ℕ → ℕ → Type 0
Between ns i k = (k ≤ length ns) × ((j : ℕ) → j < k → get_or ns j 0 < i) × ((j : ℕ) → k ≤ j → j < length ns → i < get_or ns j 0)

pub between_not : (ns : List ℕ) (i k : ℕ) → Between ns i k → is_among ns i ≡ false
between_not ns i k c =
    not_among ns i (λ j l e. ⊎_elim (λ less. omega (arith, c.1 j less)) (λ more. omega (arith, c.2 j more l)) (cases_lt j k))

module _ (ns : List ℕ) (up : Climbs ns) where
  pub grows : (i j : ℕ) → i ≤ j → j < length ns → get_or ns i 0 ≤ get_or ns j 0
  grows i j l h =
      ⊎_elim
      (λ less. omega (arith, up i j (less, h)))
      (λ same. let e : i ≡ j = omega arith in omega (arith, ap (λ (k : ℕ). get_or ns k 0) e))
      (cases_lt i j)

  -- of the bays between two numbers there is one for each place between them, at least
  pub spread : (i j : ℕ) → i ≤ j → j < length ns → get_or ns i 0 + (j - i) ≤ get_or ns j 0
  spread i zero l h = let e : i ≡ zero = omega arith in omega (arith, ap (λ (k : ℕ). get_or ns k 0) e)
  spread i (suc j) l h =
      ⊎_elim
      (λ less. omega (arith, spread i j (omega arith) (omega arith), up j (suc j) (omega arith, h)))
      (λ same. let e : i ≡ suc j = omega arith in omega (arith, ap (λ (k : ℕ). get_or ns k 0) e))
      (cases_lt i (suc j))

  -- the two numbers beside a place tell
  pub between : (i k : ℕ) → k ≤ length ns → (0 < k → get_or ns (k - 1) 0 < i) → (k < length ns → i < get_or ns k 0) → Between ns i k
  between i k few before here = (
    few,
    λ j l. omega (arith, before (omega arith), grows j (k - 1) (omega arith) (omega arith)),
    λ j l h. omega (arith, here (omega arith), grows k j l h),
  )

module _ (u : ℕ) (ns : List ℕ) (within : Inside u ns) (up : Climbs ns) where
  -- as many members as there are numbers up to i
  pub cut_count : (k i : ℕ) → Cut ns i k → count_to (is_among ns) i ≡ k
  cut_count zero i c =
      count_without (is_among ns) 0 i (omega arith) (λ b l h. not_among ns b (λ j a e. omega (arith, c.2 j (omega arith) a)))
      ∙ count_none (is_among ns)
  cut_count (suc k) i c =
      let q = get_or ns k 0 in
      let here : k < length ns = omega (arith, c.0) in
      let one = (within k here).0 in
      let none = count_without (is_among ns) q i (c.1 k (omega arith))
      (λ b l h. not_among ns b (λ j a e.
      ⊎_elim
      (λ less. omega (arith, grows ns up j k (omega arith) here))
      (λ more. omega (arith, c.2 j more a))
      (cases_lt j (suc k)))) in
      let before = cut_count k (q - 1) (
        omega arith,
        λ j l. omega (arith, up j k (l, here)),
        λ j l h. omega (arith, grows ns up k j l h),
      ) in
      none ∙ count_at (is_among ns) q one (among_at ns k here) ∙ ap suc before

  pub between_count : (i k : ℕ) → Between ns i k → count_to (is_among ns) i ≡ k
  between_count i k c = cut_count k i (c.0, λ j l. omega (arith, c.1 j l), c.2)

  pub count_place : (j : ℕ) → j < length ns → count_to (is_among ns) (get_or ns j 0) ≡ suc j
  count_place j l =
      cut_count (suc j) (get_or ns j 0) (omega arith, λ i h. grows ns up i j (omega arith) l, λ i h b. up j i (omega arith, b))

  pub count_all : count_to (is_among ns) u ≡ length ns
  count_all = cut_count (length ns) u (omega arith, λ j l. (within j l).1, λ j l h. absurd (omega arith))

  -- there are at most as many numbers as bays
  pub few : length ns ≤ u
  few = omega (arith, count_all, count_le (is_among ns) u)

  pub place_under : (j : ℕ) → j < length ns → suc j ≤ get_or ns j 0
  place_under j l = omega (arith, count_place j l, count_le (is_among ns) (get_or ns j 0))
