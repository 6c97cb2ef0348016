-- The ones of 64 bits, taken one after the other from the lowest on.
use Rattle.std.proofs.Common.{◌≡◌, ℕ, suc, ◌+◌, ◌-◌, ◌*◌, ◌/◌, ◌%◌, ◌^◌, ◌<◌, ◌≤◌, Bool, true, false, bit_and, List, [], ◌∷◌, ◌++◌, length, take, drop, set, Some, None, Option, sym, refl, ap, ◌∙◌, ⊎_elim, append_assoc, append-nil, arith, length-append, length-set, length-take, pow_pos, shr-shr, mul-le-mul}
use lib.Count.{count_trailing_zeros}
use Rattle.std.proofs.lemmas.Bool.{cases_lt, eq-eqb}
use Rattle.sets.specs.Lists.{over}
use Rattle.sets.proofs.Memory.{front_more, kept_more, is_over}
use Rattle.sets.proofs.Tests.{FirstIs, first_by}
use Rattle.bits.specs.Words.{digit}
use Rattle.bits.proofs.Digits.{high_zero, trailing_low}
use Rattle.bits.proofs.Held.{miss}
use Rattle.bits.proofs.Lowest.{left, inside, past, same, hit, one_less}
use Rattle.list.specs.Words.{ones_after}
use Rattle.list.proofs.Walked.{passing, from_first, passing_first}

module _ (w p : ℕ) (below : w < 2 ^ 64) where
  abbrev one : ℕ → Bool
  one i = digit w (i - suc p)

  -- those from place c on
  abbrev pub rest : ℕ → List ℕ
  rest c = passing one (suc p + c) (64 - c)

  at_first : (c : ℕ) (r : Option ℕ) → c ≤ 64 → FirstIs one (suc p + c) (64 - c) r → rest c ≡ from_first one (suc p + 64) r
  at_first c r l law =
      passing_first one (suc p + 64) (suc p + c) (64 - c) (λ some. omega arith)
      ∙ ap (from_first one (suc p + 64)) (sym (first_by one (suc p + c) (64 - c) r law))

  pub rest_none : (c : ℕ) → c ≤ 64 → left w c ≡ 0 → rest c ≡ []
  rest_none c l e = at_first c None l (λ j a b.
      let s = j - suc p in
      let on : c + (s - c) ≡ s = omega arith in
      let high : w / 2 ^ c ≡ 0 = none_high e in
      miss _ (ap (λ (y : ℕ). w / 2 ^ y % 2) (sym on) ∙ ap (λ (y : ℕ). y % 2) (sym (shr-shr w c (s - c))) ∙ ap (λ (y : ℕ). y / 2 ^ (s - c) % 2) high
      ∙ high_zero 0 0 (s - c) (omega arith) (omega arith)))
    where
      none_high : left w c ≡ 0 → w / 2 ^ c ≡ 0
      none_high e = ⊎_elim
          (λ z. omega arith)
          (λ some. let more : 1 * 1 ≤ w / 2 ^ c * 2 ^ c = mul-le-mul some (pow_pos c) in absurd (omega (arith, e, more)))
          (cases_lt (w / 2 ^ c) 1)

  module _ (c : ℕ) (l : c ≤ 64) (some : 0 < left w c) where
    abbrev t : ℕ
    t = count_trailing_zeros 64 (left w c)

    none_before : (s : ℕ) → c ≤ s → s < t → digit w s ≡ false
    none_before s low high = miss _ (ap (λ (y : ℕ). y % 2) (sym (same w c below some s low)) ∙ trailing_low 64 (left w c) s high)

    pub here : digit w t ≡ true
    here = eq-eqb _ 1 (hit w c below some)

    pub rest_some : rest c ≡ (p + t + 1) ∷ rest (suc t)
    rest_some =
        let low : c ≤ t = past w c below some in
        let high : t < 64 = inside w c below some in
        let place : suc p + t - suc p ≡ t = omega arith in
        let first = at_first c (Some (suc p + t)) l (
          omega arith,
          omega arith,
          ap (digit w) place ∙ here,
          λ j a b. none_before (j - suc p) (omega arith) (omega arith),
        ) in
        let number : suc p + t ≡ p + t + 1 = omega arith in
        let next : suc (suc p + t) ≡ suc p + suc t = omega arith in
        let more : suc p + 64 - suc (suc p + t) ≡ 64 - suc t = omega arith in
        first ∙ (λ i. number i ∷ passing one (next i) (more i))

-- n of them are written, those before place c, and those in v are to come
pub record Going (w p : ℕ) (old : List ℕ) (v n c : ℕ) (memory : List ℕ) : Type 0 where
  pub below : w < 2 ^ 64
  pub within : c ≤ 64
  pub to_come : v ≡ left w c
  pub size : length memory ≡ length old
  pub room : n ≤ length memory
  pub wrote : ones_after w p ≡ take n memory ++ rest w p below c
  pub kept : drop n memory ≡ drop n old

module _ (w p : ℕ) (old : List ℕ) where
  pub going_start : w < 2 ^ 64 → Going w p old w 0 0 old
  unfolding ones_after
  going_start small = record {
    below = small;
    within = omega arith;
    to_come = let none : w / 2 ^ 0 * 2 ^ 0 ≡ w = omega arith in sym none;
    size = refl;
    room = omega arith;
    wrote = let at : suc p ≡ suc p + 0 = omega arith in ap (λ (q : ℕ). passing (one w p small) q 64) at;
    kept = refl;
  }

  module _ (v n c : ℕ) (memory : List ℕ) (g : Going w p old v n c memory) where
    -- where none is left, all are written
    pub going_end : v ≡ 0 → (n ≡ length (ones_after w p)) × (memory ≡ over (ones_after w p) old)
    going_end e =
        let all : ones_after w p ≡ take n memory =
        g.wrote ∙ ap (λ (r : List ℕ). take n memory ++ r) (rest_none w p g.below c g.within (sym g.to_come ∙ e)) ∙ append-nil (take n memory) in
        let done = is_over n (ones_after w p) memory old g.room all g.kept in
        (sym done.0, done.1)

    module _ (some : 0 < v) where
      some_left : 0 < left w c
      some_left = omega (arith, g.to_come)

      abbrev pub place : ℕ
      place = count_trailing_zeros 64 v

      at_place : place ≡ t w p g.below c g.within some_left
      at_place = ap (count_trailing_zeros 64) g.to_come

      pub one_here : (place < 64) × (digit w place ≡ true)
      one_here = (omega (arith, at_place, inside w c g.below some_left), ap (digit w) at_place ∙ here w p g.below c g.within some_left)

      next : rest w p g.below c ≡ (p + place + 1) ∷ rest w p g.below (suc place)
      next = rest_some w p g.below c g.within some_left ∙ (λ i. (p + sym at_place i + 1) ∷ rest w p g.below (suc (sym at_place i)))

      pub more_room : length (ones_after w p) ≤ length old → n < length memory
      more_room fits =
          omega (arith, fits, g.size, ap length g.wrote, length-append (take n memory) (rest w p g.below c), length-take n memory, ap length next, g.room)

      pub going_on : length (ones_after w p) ≤ length old
          → Going w p old (bit_and v (v - 1)) (n + 1) (suc place) (set memory n (p + place + 1))
      going_on fits = record {
        below = g.below;
        within = omega (arith, one_here.0);
        to_come = (λ i. bit_and (g.to_come i) (g.to_come i - 1)) ∙ one_less w c g.below some_left ∙ ap (λ (y : ℕ). left w (suc y)) (sym at_place);
        size = length-set memory n (p + place + 1) ∙ g.size;
        room = omega (arith, more_room fits, length-set memory n (p + place + 1));
        wrote = g.wrote
            ∙ ap (λ (r : List ℕ). take n memory ++ r) next
            ∙ sym (append_assoc (take n memory) ((p + place + 1) ∷ []) (rest w p g.below (suc place)))
            ∙ ap (λ (r : List ℕ). r ++ rest w p g.below (suc place)) (front_more n memory (p + place + 1) (more_room fits));
        kept = kept_more n memory old (p + place + 1) g.kept;
      }
