-- What a number that holds some bits tells of them: how many pass a test, the first, the last and the k-th that does.
use Rattle.std.proofs.Common.{◌≡◌, ℕ, zero, suc, ◌+◌, ◌-◌, ◌*◌, ◌/◌, ◌%◌, ◌^◌, ◌<◌, ◌≤◌, Bool, true, false, not, eqb, leb, Some, None, Option, sym, refl, ap, ◌∙◌, subst, inr, ⊎_elim, lt_of_lt_of_le, add-zero, add-suc, mod-lt, mod-eq_of_lt, pow-suc, lt_of_not-le, arith, pow_pos, pow_mono, shr-shr}
use native.Mathlib.Nat.{mod-one, div-eq_of_lt-le}
use lib.Bits.{bit_and}
use lib.Count.{ones, count_trailing_zeros, count_leading_zeros, leading_top, trailing_of_zero}
use lib.Pow.{shr_le}
use Rattle.std.proofs.lemmas.Bool.{cases_lt, cond_both, cond-false, lt-leb, eq-eqb, ne_eqb, leb-true, leb-false}
use Rattle.sets.specs.Search.{first_from, last_to, count_to, kth_to}
use Rattle.sets.proofs.Tests.{FirstIs, LastIs, first_law, first_by, last_law, last_by, count_here, count_on, count_less, kth_by}
use Rattle.bits.specs.Words.{digit, Holds, at_most}
use Rattle.bits.proofs.Digits.{ones_of_zero, ones_more, front_mask, high_zero, front_digit, not_digit, trailing_low, trailing_hit, trailing_some}

pub miss : (d : ℕ) → d ≡ 0 → eqb d 1 ≡ false
miss d e = ne_eqb d 1 (λ o. omega arith)

-- none of the numbers after a passes, up to b
abbrev pub Without : (ℕ → Bool) → ℕ → ℕ → Type 0
Without f a b = (j : ℕ) → a < j → j ≤ b → f j ≡ false

module _ (f : ℕ → Bool) where
  pub joined : (a b d : ℕ) → Without f a b → Without f b d → Without f a d
  joined a b d low high j l h = ⊎_elim (λ more. high j more h) (λ less. low j l less) (cases_lt b j)

  -- ---- fewer bits, more bits, and the others

  -- so masked, x holds the first n
  pub front_held : (p m x q n : ℕ) → Holds f p m x → n + q ≡ m → Holds f p n (bit_and x ((2 ^ m - 1) / 2 ^ q))
  front_held p m x q n h e =
      let front : Holds f p n (x % 2 ^ n) = record {
        small = mod-lt x (pow_pos n);
        place = λ s l. h.place s (omega arith) ∙ ap (λ d. eqb d 1) (sym (front_digit x n s l));
      } in
      subst (λ (y : ℕ). Holds f p n y) (sym (front_mask x m q n e)) front

  pub longer : (p m n x : ℕ) → Holds f p m x → m ≤ n → Without f (p + m) (p + n) → Holds f p n x
  longer p m n x h l none = record {
    small = lt_of_lt_of_le h.small (pow_mono l);
    place = λ s b.
        ⊎_elim (λ less. h.place s less) (λ more. none (suc (p + s)) (omega arith) (omega arith) ∙ sym (miss _ (high_zero x m s h.small more)))
        (cases_lt s m);
  }

  pub others_held : (p m x : ℕ) → Holds f p m x → Holds (λ i. not (f i)) p m (2 ^ m - 1 - x)
  others_held p m x h = record {
    small = omega (arith, pow_pos m);
    place = λ s l. ap not (h.place s l) ∙ other (x / 2 ^ s % 2) _ (mod-lt (x / 2 ^ s) (omega arith)) (not_digit m x s h.small l);
  }
    where
      other : (d e : ℕ) → d < 2 → e ≡ 1 - d → not (eqb d 1) ≡ eqb e 1
      other d e l h = ⊎_elim
          (λ z. let a : d ≡ 0 = omega arith in ap not (miss d a) ∙ sym (eq-eqb e 1 (omega arith)))
          (λ o. let a : d ≡ 1 = omega arith in ap not (eq-eqb d 1 a) ∙ sym (miss e (omega arith)))
          (cases_lt d 1)

  -- ---- how many

  count_more : (n d : ℕ) → d < 2 → f (suc n) ≡ eqb d 1 → count_to f (suc n) ≡ count_to f n + d
  count_more n d l e = ⊎_elim
      (λ z. let a : d ≡ 0 = omega arith in omega (arith, count_on f n (e ∙ miss d a)))
      (λ o. let a : d ≡ 1 = omega arith in omega (arith, count_here f n (e ∙ eq-eqb d 1 a)))
      (cases_lt d 1)

  -- among the first k, and among all
  pub count_part : (p m x k : ℕ) → Holds f p m x → k ≤ m → count_to f (p + k) ≡ count_to f p + ones (x % 2 ^ k)
  count_part p m x zero h l = omega (arith, ap (count_to f) (add-zero p), ap ones (mod-one x), ones_of_zero)
  count_part p m x (suc k) h l =
      let ih = count_part p m x k h (omega arith) in
      let one = count_more (p + k) (x / 2 ^ k % 2) (mod-lt (x / 2 ^ k) (omega arith)) (h.place k l) in
      ap (count_to f) (add-suc p k) ∙ omega (arith, ih, one, ones_more x k)

  pub count_all : (p m x : ℕ) → Holds f p m x → count_to f (p + m) ≡ count_to f p + ones x
  count_all p m x h = count_part p m x m h (omega arith) ∙ ap (λ (y : ℕ). count_to f p + ones y) (mod-eq_of_lt h.small)

  -- in a word
  pub count_word : (w x : ℕ) → Holds f (8 * (8 * w)) 64 x → count_to f (64 * w + 64) ≡ count_to f (64 * w) + ones x
  count_word w x h =
      let at : 8 * (8 * w) ≡ 64 * w = omega arith in
      let end : 8 * (8 * w) + 64 ≡ 64 * w + 64 = omega arith in
      omega (arith, count_all _ 64 x h, ap (count_to f) at, ap (count_to f) end)

  -- ---- the first after p + k

  shifted : (p m x k s : ℕ) → Holds f p m x → k + s < m → f (suc (p + (k + s))) ≡ digit (x / 2 ^ k) s
  shifted p m x k s h l = h.place (k + s) l ∙ ap (λ (y : ℕ). eqb (y % 2) 1) (sym (shr-shr x k s))

  pub none_past : (p m x k : ℕ) → Holds f p m x → x / 2 ^ k ≡ 0 → Without f (p + k) (p + m)
  none_past p m x k h e j l b =
      let s = j - suc (p + k) in
      let same : j ≡ suc (p + (k + s)) = omega arith in
      ap f same ∙ shifted p m x k s h (omega arith) ∙ miss _ (ap (λ (y : ℕ). y / 2 ^ s % 2) e ∙ high_zero 0 0 s (omega arith) (omega arith))

  pub first_past : (p m x k y q : ℕ) → Holds f p m x → y ≡ x / 2 ^ k → 0 < y → q ≡ suc (p + k + count_trailing_zeros m y) → (f q ≡ true) × Without f (p + k) (q - 1) × (q ≤ p + m)
  first_past p m x k y q h e some at =
      let t = count_trailing_zeros m y in
      let hit = trailing_hit m y (trailing_some m y some (omega (arith, shr_le x k, h.small))) in
      let whole : y / 2 ^ t % 2 ≡ x / 2 ^ (k + t) % 2 = ap (λ (z : ℕ). z / 2 ^ t % 2) e ∙ ap (λ (z : ℕ). z % 2) (shr-shr x k t) in
      let inside : k + t < m = lt_of_not-le (λ l. omega (arith, high_zero x m (k + t) h.small l)) in
      let same : q ≡ suc (p + (k + t)) = omega arith in (
        ap f same ∙ h.place (k + t) inside ∙ eq-eqb _ 1 (omega arith),
        λ j l b.
            let s = j - suc (p + k) in
            let at_j : j ≡ suc (p + (k + s)) = omega arith in
            ap f at_j ∙ shifted p m x k s h (omega arith) ∙ miss _ (ap (λ (z : ℕ). z / 2 ^ s % 2) (sym e) ∙ trailing_low m y s (omega arith)),
        omega arith,
      )

  pub up_first : (from last q : ℕ) → 1 ≤ from → from ≤ q → f q ≡ true → Without f (from - 1) (q - 1) → at_most last q ≡ first_from f from (suc last - from)
  up_first from last q one low hit none =
      cond_both (leb q last) (Some q) None (λ r. r ≡ first_from f from (suc last - from))
      (λ e. let high = leb-true q last e in
      first_by f from _ (Some q) (low, omega arith, hit, λ j a b. none j (omega arith) (omega arith)))
      (λ e. let high = leb-false q last e in first_by f from _ None (λ j a b. none j (omega arith) (omega arith)))

  -- among those of x from the k-th on
  pub up_rest : (from last p k x : ℕ) → from ≡ suc (p + k) → last ≤ p + 64 → Holds f p 64 x → at_most last (from + count_trailing_zeros 64 (x / 2 ^ k)) ≡ first_from f from (suc last - from)
  up_rest from last p k x at near held = ⊎_elim
      (λ zero.
      let e : x / 2 ^ k ≡ 0 = omega arith in
      let past : last < from + count_trailing_zeros 64 (x / 2 ^ k) = omega (arith, ap (count_trailing_zeros 64) e, trailing_of_zero 64) in
      cond-false _ _ _ (lt-leb _ last past) ∙ first_by f from _ None (λ j l h. none_past p 64 x k held e j (omega arith) (omega arith)))
      (λ some.
      let first = first_past p 64 x k (x / 2 ^ k) (from + count_trailing_zeros 64 (x / 2 ^ k)) held refl some (omega arith) in
      up_first from last _ (omega arith) (omega arith) first.0 (λ j a b. first.1 j (omega arith) b))
      (cases_lt (x / 2 ^ k) 1)

  -- from a later one on, where none between passes
  pub first_later : (from start last : ℕ) → 1 ≤ from → from ≤ start → Without f (from - 1) (start - 1) → first_from f start (suc last - start) ≡ first_from f from (suc last - from)
  first_later from start last one later none = first_by f from _ _ (found (first_from f start (suc last - start)) (first_law f start (suc last - start)))
    where
      found : (r : Option ℕ) → FirstIs f start (suc last - start) r → FirstIs f from (suc last - from) r
      found None h = λ j l b. ⊎_elim (λ less. none j (omega arith) (omega arith)) (λ more. h j more (omega arith)) (cases_lt j start)
      found (Some i) h = (omega arith, omega arith, h.2, λ j l b. ⊎_elim (λ less. none j (omega arith) (omega arith)) (λ more. h.3 j more b) (cases_lt j start))

  pub last_earlier : (from end : ℕ) → end ≤ from → Without f end from → last_to f end ≡ last_to f from
  last_earlier from end earlier none = last_by f from _ (found (last_to f end) (last_law f end))
    where
      found : (r : Option ℕ) → LastIs f end r → LastIs f from r
      found None h = λ j l b. ⊎_elim (λ more. none j more b) (λ within. h j l within) (cases_lt end j)
      found (Some i) h = (h.0, omega (arith, h.1), h.2, λ j l b. ⊎_elim (λ more. none j more b) (λ within. h.3 j l within) (cases_lt end j))

  -- ---- the last

  pub last_in_lem : (p m n x q : ℕ) → Holds f p n x → n ≤ m → 0 < x → q ≡ p + (m - count_leading_zeros m x) → (1 ≤ q) × (q ≤ p + n) × (f q ≡ true) × Without f q (p + n)
  last_in_lem p m n x q h l some at =
      let top = leading_top m x some (lt_of_lt_of_le h.small (pow_mono l)) in
      let t = top.0 in
      let one : x / 2 ^ t ≡ 1 = div-eq_of_lt-le (2 ^ t) (omega (arith, top.2)) (omega (arith, top.3, pow-suc 2 t)) in
      let inside : t < n = lt_of_not-le (λ b. omega (arith, high_zero x n t h.small b, one)) in
      let same : q ≡ suc (p + t) = omega (arith, top.1) in (
        omega arith,
        omega arith,
        ap f same ∙ h.place t inside ∙ eq-eqb _ 1 (ap (λ (y : ℕ). y % 2) one),
        λ j a b.
            let s = j - suc p in
            let at_j : j ≡ suc (p + s) = omega arith in
            ap f at_j ∙ h.place s (omega arith) ∙ miss _ (high_zero x (suc t) s top.3 (omega arith)),
      )

  -- ---- the k-th

  pub kth_in : (p m x s q : ℕ) → Holds f p m x → s < m → x / 2 ^ s % 2 ≡ 1 → q ≡ suc (p + s) → (f q ≡ true) × (count_to f q ≡ count_to f p + ones (x % 2 ^ s) + 1)
  kth_in p m x s q h l hit at =
      let here : f (suc (p + s)) ≡ true = h.place s l ∙ eq-eqb _ 1 hit in
      (ap f at ∙ here, ap (count_to f) at ∙ omega (arith, count_here f (p + s) here, count_part p m x s h (omega arith)))

  pub up_kth : (k last q : ℕ) → 1 ≤ q → f q ≡ true → count_to f q ≡ k → at_most last q ≡ kth_to f k last
  up_kth k last q one hit count =
      cond_both (leb q last) (Some q) None (λ r. r ≡ kth_to f k last)
      (λ e. kth_by f k last (Some q) (one, leb-true q last e, hit, count))
      (λ e. kth_by f k last None (inr (omega (arith, count_less f last q (leb-false q last e) hit))))
