-- The numbers of the ones of a row: one more bit, equal rows, and the lowest one before the others.
use Rattle.std.proofs.Common.{◌≡◌, ℕ, zero, suc, ◌+◌, ◌-◌, ◌*◌, ◌/◌, ◌%◌, ◌^◌, ◌<◌, ◌≤◌, Bool, true, false, cond, eqb, List, [], ◌∷◌, ◌++◌, length, take, drop, set, refl, sym, ap, ◌∙◌, ⊎_elim, arith, append_assoc, length-append, length-set, length-take, lt_of_le_of_lt, pow_pos, div-one, shr-shr}
use lib.Bits.{bit_and}
use lib.Count.{ones, count_trailing_zeros}
use Rattle.std.proofs.lemmas.Bool.{cases_lt, cases_Bool, cond-true, cond-false, eq-eqb}
use Rattle.std.proofs.lemmas.List.{append-nil}
use Rattle.std.proofs.lemmas.Nat.Bits.{bit_at_and, bit_at_cat_high, bit_at_ones, bit_at_ones_above, ones_shr}
use Rattle.sets.specs.Lists.{over}
use Rattle.sets.specs.Search.{count_to}
use Rattle.sets.proofs.Tests.{count_none, count_here, count_on}
use Rattle.sets.proofs.Memory.{front_more, kept_more, is_over}
use Rattle.bits.specs.Words.{digit, Holds}
use Rattle.bits.proofs.Digits.{trailing_low, trailing_hit, trailing_some, half_digit, high_zero}
use Rattle.bits.proofs.Held.{miss, count_all}
use native.Mathlib.Nat.{mod-one}
use Rattle.std.proofs.Math.Nat.{add-mul}
use lib.Pow.{mod-pow-add}
use Rattle.std.proofs.lemmas.Nat.{div-add-mod', and_le_l}
use Rattle.strides.specs.Strides.{row_of, numbered}

module _ (g : ℕ → Bool) (first : ℕ) where
  pub numbered_none : numbered g first 0 ≡ []
  unfolding numbered
  numbered_none = refl

  numbered_more : (n : ℕ) → numbered g first (suc n) ≡ numbered g first n ++ cond (g (suc n)) ((first + n) ∷ []) []
  unfolding numbered
  numbered_more n = refl

  pub numbered_here : (n : ℕ) → g (suc n) ≡ true → numbered g first (suc n) ≡ numbered g first n ++ ((first + n) ∷ [])
  numbered_here n e = numbered_more n ∙ ap (λ (xs : List ℕ). numbered g first n ++ xs) (cond-true (g (suc n)) ((first + n) ∷ []) [] e)

  pub numbered_on : (n : ℕ) → g (suc n) ≡ false → numbered g first (suc n) ≡ numbered g first n
  numbered_on n e = numbered_more n ∙ ap (λ (xs : List ℕ). numbered g first n ++ xs) (cond-false (g (suc n)) ((first + n) ∷ []) [] e) ∙ append-nil (numbered g first n)

  pub numbered_size : (n : ℕ) → length (numbered g first n) ≤ n
  numbered_size zero = omega (arith, ap length numbered_none)
  numbered_size (suc n) =
      ⊎_elim
      (λ e. omega (arith, numbered_size n, ap length (numbered_here n e), length-append (numbered g first n) ((first + n) ∷ [])))
      (λ e. omega (arith, numbered_size n, ap length (numbered_on n e)))
      (cases_Bool (g (suc n)))

pub numbered_agree : (f g : ℕ → Bool) (first n : ℕ) → ((s : ℕ) → s < n → f (suc s) ≡ g (suc s)) → numbered f first n ≡ numbered g first n
unfolding numbered
numbered_agree f g first zero same = refl
numbered_agree f g first (suc n) same =
    let on = numbered_agree f g first n (λ s l. same s (omega arith)) in
    let here = same n (omega arith) in
    λ i. on i ++ cond (here i) ((first + n) ∷ []) []

-- a row goes on behind its first p bits
pub numbered_join : (g : ℕ → Bool) (first p n : ℕ) → numbered g first (p + n) ≡ numbered g first p ++ numbered (λ i. g (p + i)) (first + p) n
unfolding numbered
numbered_join g first p zero = let e : p + 0 ≡ p = omega arith in ap (numbered g first) e ∙ sym (append-nil (numbered g first p))
numbered_join g first p (suc n) =
    let e : p + suc n ≡ suc (p + n) = omega arith in
    let at : first + (p + n) ≡ first + p + n = omega arith in
    let bit : g (suc (p + n)) ≡ g (p + suc n) = ap g (sym e) in
    let on = numbered_join g first p n in
    ap (numbered g first) e
    ∙ (λ i. on i ++ cond (bit i) (at i ∷ []) [])
    ∙ append_assoc (numbered g first p) (numbered (λ i. g (p + i)) (first + p) n) (cond (g (p + suc n)) ((first + p + n) ∷ []) [])

-- ---- the lowest one

-- w without its lowest one
abbrev pub without : ℕ → ℕ
without w = bit_and w (w - 1)

module _ (w : ℕ) (some : 0 < w) (fits : w < 2 ^ 64) where
  abbrev pub lowest : ℕ
  lowest = count_trailing_zeros 64 w

  low-hit : w / 2 ^ lowest % 2 ≡ 1
  low-hit = trailing_hit 64 w (trailing_some 64 w some fits)

  -- the digits below the lowest one, as a remainder
  low-none : (k : ℕ) → k ≤ lowest → w % 2 ^ k ≡ 0
  low-none zero l = mod-one w
  low-none (suc k) l =
      let e : suc k ≡ 1 + k = omega arith in
      let none : w / 2 ^ k % 2 ≡ 0 = trailing_low 64 w k (omega arith) in
      ap (λ (y : ℕ). w % 2 ^ y) e ∙ mod-pow-add w 1 k ∙ (λ i. none i * 2 ^ k + low-none k (omega arith) i) ∙ omega arith

  half-of : ℕ
  half-of = w / 2 ^ lowest / 2

  odd : w / 2 ^ lowest ≡ 2 * half-of + 1
  unfolding half-of
  odd = omega (arith, low-hit)

  -- w, and the number before it, by the digits above those that are 0
  whole : w ≡ (2 * half-of + 1) * 2 ^ lowest + 0
  whole = sym (div-add-mod' w (2 ^ lowest)) ∙ (λ i. odd i * 2 ^ lowest + low-none lowest (omega arith) i)

  before : w - 1 ≡ 2 * half-of * 2 ^ lowest + (2 ^ lowest - 1)
  before = omega (arith, whole, add-mul (2 * half-of) 1 (2 ^ lowest), pow_pos lowest)

  less_digit : (s : ℕ) → lowest < s → (w - 1) / 2 ^ s % 2 ≡ w / 2 ^ s % 2
  less_digit s l =
      let j = s - lowest - 1 in
      let up : s - lowest ≡ suc j = omega arith in
      let less : (2 * half-of) / 2 ≡ (2 * half-of + 1) / 2 = omega arith in
      ap (λ (x : ℕ). x / 2 ^ s % 2) before
      ∙ bit_at_cat_high (2 * half-of) lowest (2 ^ lowest - 1) s (omega (arith, pow_pos lowest)) (omega arith)
      ∙ ap (λ (y : ℕ). 2 * half-of / 2 ^ y % 2) up
      ∙ sym (half_digit (2 * half-of) j)
      ∙ ap (λ (y : ℕ). y / 2 ^ j % 2) less
      ∙ half_digit (2 * half-of + 1) j
      ∙ ap (λ (y : ℕ). (2 * half-of + 1) / 2 ^ y % 2) (sym up)
      ∙ sym (bit_at_cat_high (2 * half-of + 1) lowest 0 s (pow_pos lowest) (omega arith))
      ∙ ap (λ (x : ℕ). x / 2 ^ s % 2) (sym whole)

  less_there : (w - 1) / 2 ^ lowest % 2 ≡ 0
  less_there =
      let none : lowest - lowest ≡ 0 = omega arith in
      ap (λ (x : ℕ). x / 2 ^ lowest % 2) before
      ∙ bit_at_cat_high (2 * half-of) lowest (2 ^ lowest - 1) lowest (omega (arith, pow_pos lowest)) (omega arith)
      ∙ ap (λ (y : ℕ). 2 * half-of / 2 ^ y % 2) none
      ∙ omega (arith, div-one (2 * half-of))

  without_low : (s : ℕ) → s ≤ lowest → digit (without w) s ≡ false
  without_low s l = miss _
      (⊎_elim
      (λ below. omega (arith, bit_at_and w (w - 1) s, trailing_low 64 w s below))
      (λ at.
      let same : s ≡ lowest = omega arith in
      omega (arith, bit_at_and w (w - 1) s, ap (λ (y : ℕ). (w - 1) / 2 ^ y % 2) same, less_there))
      (cases_lt s lowest))

  without_high : (s : ℕ) → lowest < s → digit (without w) s ≡ digit w s
  without_high s l = ap (λ (d : ℕ). eqb d 1) (omega (arith, bit_at_and w (w - 1) s, less_digit s l))

  none_yet : (first n : ℕ) → n ≤ lowest → numbered (row_of w) first n ≡ []
  none_yet first zero l = numbered_none (row_of w) first
  none_yet first (suc n) l = numbered_on (row_of w) first n (miss _ (trailing_low 64 w n (omega arith))) ∙ none_yet first n (omega arith)

  none_left : (first n : ℕ) → n ≤ suc lowest → numbered (row_of (without w)) first n ≡ []
  none_left first zero l = numbered_none (row_of (without w)) first
  none_left first (suc n) l = numbered_on (row_of (without w)) first n (without_low n (omega arith)) ∙ none_left first n (omega arith)

  first_of : (first n : ℕ) → lowest < n → numbered (row_of w) first n ≡ (first + lowest) ∷ numbered (row_of (without w)) first n
  unfolding numbered
  first_of first zero l = absurd (omega arith)
  first_of first (suc n) l = ⊎_elim
      (λ above.
      let on = first_of first n above in
      let here : digit w n ≡ digit (without w) n = sym (without_high n above) in
      λ i. on i ++ cond (here i) ((first + n) ∷ []) [])
      (λ at.
      let same : n ≡ lowest = omega arith in
      numbered_here (row_of w) first n (eq-eqb _ 1 (ap (λ (y : ℕ). w / 2 ^ y % 2) same ∙ low-hit))
      ∙ ap (λ (xs : List ℕ). xs ++ ((first + n) ∷ [])) (none_yet first n (omega arith))
      ∙ (λ i. (first + same i) ∷ sym (none_left first (suc n) (omega arith)) i))
      (cases_lt lowest n)

  pub lowest_first : (first : ℕ) → numbered (row_of w) first 64 ≡ (first + lowest) ∷ numbered (row_of (without w)) first 64
  lowest_first first = first_of first 64 (trailing_some 64 w some fits)

pub zero_none : (first n : ℕ) → numbered (row_of 0) first n ≡ []
zero_none first zero = numbered_none (row_of 0) first
zero_none first (suc n) = numbered_on (row_of 0) first n (miss _ (high_zero 0 0 n (omega arith) (omega arith))) ∙ zero_none first n

-- ---- written one after the other

-- the numbers of `row` are n that are written and those of `left`
pub record Writing (row first : ℕ) (out₀ : List ℕ) (left n : ℕ) (out : List ℕ) : Type 0 where
  pub size : length out ≡ length out₀
  pub within : n ≤ length out
  pub fits : left < 2 ^ 64
  pub wrote : numbered (row_of row) first 64 ≡ take n out ++ numbered (row_of left) first 64
  pub kept : drop n out ≡ drop n out₀

module _ (row first : ℕ) (out₀ : List ℕ) (left n : ℕ) (out : List ℕ) (room : 64 ≤ length out₀) (w : Writing row first out₀ left n out) where
  written_size : length (numbered (row_of row) first 64) ≡ n + length (numbered (row_of left) first 64)
  written_size =
      ap length w.wrote ∙ length-append (take n out) (numbered (row_of left) first 64)
      ∙ omega (arith, length-take n out, w.within)

  pub room_left : 0 < left → n < 64
  room_left some = omega (arith, written_size, ap length (lowest_first left some w.fits first), numbered_size (row_of row) first 64)

  pub written_more : (x : ℕ) → 0 < left → x ≡ first + count_trailing_zeros 64 left → Writing row first out₀ (without left) (n + 1) (set out n x)
  written_more x some e =
      let room' : n < length out = omega (arith, room_left some, w.size) in
      let rest = numbered (row_of (without left)) first 64 in
      record {
        size = length-set out n x ∙ w.size;
        within = omega (arith, length-set out n x);
        fits = lt_of_le_of_lt (and_le_l left (left - 1)) w.fits;
        wrote = w.wrote
            ∙ ap (λ (xs : List ℕ). take n out ++ xs) (lowest_first left some w.fits first ∙ (λ i. sym e i ∷ rest))
            ∙ sym (append_assoc (take n out) (x ∷ []) rest)
            ∙ ap (λ (xs : List ℕ). xs ++ rest) (front_more n out x room');
        kept = kept_more n out out₀ x w.kept;
      }

  pub written_all : left ≡ 0 → out ≡ over (numbered (row_of row) first 64) out₀
  written_all e =
      let all : numbered (row_of row) first 64 ≡ take n out =
      w.wrote ∙ (λ i. take n out ++ numbered (row_of (e i)) first 64) ∙ (λ i. take n out ++ zero_none first 64 i) ∙ append-nil (take n out) in
      (is_over n (numbered (row_of row) first 64) out out₀ w.within all w.kept).1

-- ---- a run of them

-- k numbers that rise by one are written
pub record Rising (first : ℕ) (out₀ : List ℕ) (k : ℕ) (out : List ℕ) : Type 0 where
  pub size : length out ≡ length out₀
  pub wrote : numbered (λ i. true) first k ≡ take k out
  pub kept : drop k out ≡ drop k out₀

pub rising_more : (first : ℕ) (out₀ : List ℕ) (k : ℕ) (out : List ℕ) → k < length out₀ → Rising first out₀ k out → Rising first out₀ (k + 1) (set out k (first + k))
rising_more first out₀ k out room r =
    let room' : k < length out = omega (arith, r.size) in
    let e : suc k ≡ k + 1 = omega arith in
    record {
      size = length-set out k (first + k) ∙ r.size;
      wrote = ap (numbered (λ i. true) first) (sym e) ∙ numbered_here (λ i. true) first k refl ∙ ap (λ (xs : List ℕ). xs ++ ((first + k) ∷ [])) r.wrote
          ∙ front_more k out (first + k) room';
      kept = kept_more k out out₀ (first + k) r.kept;
    }

pub rising_all : (first n : ℕ) (out₀ out : List ℕ) → n ≤ length out₀ → Rising first out₀ n out → out ≡ over (numbered (λ i. true) first n) out₀
rising_all first n out₀ out room r = (is_over n (numbered (λ i. true) first n) out out₀ (omega (arith, r.size)) r.wrote r.kept).1

-- as many numbers as ones
numbered_count : (g : ℕ → Bool) (first n : ℕ) → length (numbered g first n) ≡ count_to g n
numbered_count g first zero = omega (arith, ap length (numbered_none g first), count_none g)
numbered_count g first (suc n) =
    ⊎_elim
    (λ e. omega (arith, numbered_count g first n, count_here g n e, ap length (numbered_here g first n e), length-append (numbered g first n) ((first + n) ∷ [])))
    (λ e. omega (arith, numbered_count g first n, count_on g n e, ap length (numbered_on g first n e)))
    (cases_Bool (g (suc n)))

pub ones_many : (row first : ℕ) → row < 2 ^ 64 → ones row ≡ length (numbered (row_of row) first 64)
ones_many row first fits =
    let h : Holds (row_of row) 0 64 row = record { small = fits; place = λ s l. let e : suc (0 + s) ≡ suc s = omega arith in ap (row_of row) e } in
    omega (arith, numbered_count (row_of row) first 64, count_all (row_of row) 0 64 row h, count_none (row_of row))

pub ones_some : (row : ℕ) → 0 < row → row < 2 ^ 64 → (1 ≤ ones row) × (ones row ≤ 64)
ones_some row some fits =
    let many = ones_many row 0 fits in
    (omega (arith, many, ap length (lowest_first row some fits 0)), omega (arith, many, numbered_size (row_of row) 0 64))

-- the ones of w are a run
module _ (w n first : ℕ) (some : 0 < w) (fits : w < 2 ^ 64) (one : 1 ≤ n) (within : n ≤ 64) (run : w / 2 ^ lowest w some fits ≡ (2 ^ 64 - 1) / 2 ^ (64 - n)) where
  abbrev pub t : ℕ
  t = lowest w some fits

  run_digit : (j : ℕ) → w / 2 ^ (t + j) % 2 ≡ (2 ^ n - 1) / 2 ^ j % 2
  run_digit j =
      let e : 64 - (64 - n) ≡ n = omega arith in
      let whole : w / 2 ^ t ≡ 2 ^ n - 1 = run ∙ ones_shr 64 (64 - n) (omega arith) ∙ ap (λ (k : ℕ). 2 ^ k - 1) e in
      ap (λ (y : ℕ). y % 2) (sym (shr-shr w t j)) ∙ ap (λ (y : ℕ). y / 2 ^ j % 2) whole

  pub run_within : t + n ≤ 64
  run_within = ⊎_elim
      (λ past.
      let at : t + (n - 1) ≡ t + n - 1 = omega arith in
      absurd (omega (arith, run_digit (n - 1), bit_at_ones n (n - 1) (omega arith), high_zero w 64 (t + (n - 1)) fits (omega arith))))
      (λ l. l)
      (cases_lt 64 (t + n))

  run_here : (j : ℕ) → j ≤ n → numbered (row_of w) first (t + j) ≡ numbered (λ i. true) (first + t) j
  run_here zero l = (let e : t + 0 ≡ t = omega arith in ap (numbered (row_of w) first) e) ∙ none_yet w some fits first t (omega arith) ∙ sym (numbered_none (λ i. true) (first + t))
  run_here (suc j) l =
      let e : t + suc j ≡ suc (t + j) = omega arith in
      let at : first + (t + j) ≡ first + t + j = omega arith in
      ap (numbered (row_of w) first) e
      ∙ numbered_here (row_of w) first (t + j) (eq-eqb _ 1 (run_digit j ∙ bit_at_ones n j (omega arith)))
      ∙ (λ i. run_here j (omega arith) i ++ (at i ∷ []))
      ∙ sym (numbered_here (λ i. true) (first + t) j refl)

  run_past : (d : ℕ) → numbered (row_of w) first (t + n + d) ≡ numbered (row_of w) first (t + n)
  run_past zero = let e : t + n + 0 ≡ t + n = omega arith in ap (numbered (row_of w) first) e
  run_past (suc d) =
      let e : t + n + suc d ≡ suc (t + (n + d)) = omega arith in
      let back : t + (n + d) ≡ t + n + d = omega arith in
      ap (numbered (row_of w) first) e
      ∙ numbered_on (row_of w) first (t + (n + d)) (miss _ (run_digit (n + d) ∙ bit_at_ones_above n (n + d) (omega arith)))
      ∙ ap (numbered (row_of w) first) back ∙ run_past d

  pub run_numbers : numbered (λ i. true) (first + t) n ≡ numbered (row_of w) first 64
  run_numbers =
      let e : t + n + (64 - (t + n)) ≡ 64 = omega (arith, run_within) in
      sym (run_here n (omega arith)) ∙ sym (run_past (64 - (t + n))) ∙ ap (numbered (row_of w) first) e
