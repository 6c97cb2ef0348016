-- The ones of a number, taken away from the lowest on.
use Rattle.std.proofs.Common.{◌≡◌, ℕ, suc, ◌+◌, ◌-◌, ◌*◌, ◌/◌, ◌%◌, ◌^◌, ◌<◌, ◌≤◌, bit_and, sym, ap, ◌∙◌, add-zero, arith, mod-lt, mul_assoc, subst, pow_pos, pow-suc, lt_of_not-le, ⊎_elim, shr-shr}
use lib.Count.{ones, count_trailing_zeros}
use Rattle.std.specs.Int.Bits.{and_self, and_zero_l, and_zero_r}
use Rattle.std.proofs.lemmas.Bool.{cases_lt}
use Rattle.std.proofs.lemmas.Nat.{and_block, shr_split, shl-shr}
use Rattle.std.proofs.lemmas.Nat.Bits.{same_from_bits_below, bit_at_cat_low, bit_at-zero}
use Rattle.bits.proofs.Digits.{ones_of_zero, ones_parts, ones_more, front_digit, trailing_low, trailing_hit, trailing_some}

low_none : (x h : ℕ) → ((s : ℕ) → s < h → x / 2 ^ s % 2 ≡ 0) → x % 2 ^ h ≡ 0
low_none x h none = same_from_bits_below h (x % 2 ^ h) 0 (mod-lt x (pow_pos h)) (pow_pos h) (λ s l. front_digit x h s l ∙ none s l ∙ sym (bit_at-zero s))

-- an odd number of 2 ^ t, and one less
and_less : (b t x : ℕ) → x ≡ (b * 2 + 1) * 2 ^ t → bit_and x (x - 1) ≡ b * 2 ^ suc t
and_less b t x e =
    let high : x ≡ (b * 2 ^ 1 + 1) * 2 ^ t + 0 = e ∙ sym (add-zero _) in
    let low : x - 1 ≡ (b * 2 ^ 1 + 0) * 2 ^ t + (2 ^ t - 1) = omega (arith, e, pow_pos t) in
    let odd : bit_and (b * 2 ^ 1 + 1) (b * 2 ^ 1 + 0) ≡ b * 2 = and_block 1 b b 1 0 (omega arith) (omega arith) ∙ (λ i. and_self b i * 2 + and_zero_r 1 i) ∙ add-zero _ in
    (λ i. bit_and (high i) (low i)) ∙ and_block t (b * 2 ^ 1 + 1) (b * 2 ^ 1 + 0) 0 (2 ^ t - 1) (pow_pos t) (omega (arith, pow_pos t))
    ∙ (λ i. odd i * 2 ^ t + and_zero_l (2 ^ t - 1) i) ∙ add-zero _ ∙ mul_assoc b 2 (2 ^ t) ∙ ap (λ (y : ℕ). b * y) (let e : 2 * 2 ^ t ≡ 2 ^ suc t = omega (arith, pow-suc 2 t) in e)

-- the ones of w from place c on are left
module _ (w c : ℕ) where
  abbrev pub left : ℕ
  left = w / 2 ^ c * 2 ^ c

  pub some_left : (k : ℕ) → ones (w % 2 ^ c) < k → k ≤ ones w → 0 < left
  some_left k less enough = lt_of_not-le (λ none.
      let all : w % 2 ^ c ≡ w = omega (arith, shr_split w c, none) in
      omega (arith, ap ones all))

  module _ (small : w < 2 ^ 64) (some : 0 < left) where
    abbrev t : ℕ
    t = count_trailing_zeros 64 left

    below : left < 2 ^ 64
    below = omega (arith, shr_split w c)

    pub inside : t < 64
    inside = trailing_some 64 left some below

    pub past : c ≤ t
    past = ⊎_elim
        (λ less.
        let zero : left + 0 ≡ left = add-zero left in
        let low : left / 2 ^ t % 2 ≡ 0 = ap (λ (y : ℕ). y / 2 ^ t % 2) (sym zero) ∙ bit_at_cat_low (w / 2 ^ c) c 0 t less ∙ bit_at-zero t in
        absurd (omega (arith, low, trailing_hit 64 left inside)))
        (λ more. more)
        (cases_lt t c)

    pub same : (m : ℕ) → c ≤ m → left / 2 ^ m ≡ w / 2 ^ m
    same m l =
        let e : c + (m - c) ≡ m = omega arith in
        ap (λ (y : ℕ). left / 2 ^ y) (sym e) ∙ sym (shr-shr left c (m - c)) ∙ ap (λ (y : ℕ). y / 2 ^ (m - c)) (shl-shr (w / 2 ^ c) c) ∙ shr-shr w c (m - c)
        ∙ ap (λ (y : ℕ). w / 2 ^ y) e

    pub hit : w / 2 ^ t % 2 ≡ 1
    hit = ap (λ (y : ℕ). y % 2) (sym (same t past)) ∙ trailing_hit 64 left inside

    low_left : left % 2 ^ t ≡ 0
    low_left = low_none left t (trailing_low 64 left)

    -- none is passed over
    pub ones_before : ones (w % 2 ^ t) ≡ ones (w % 2 ^ c)
    ones_before =
        let e : c + (t - c) ≡ t = let h : c ≤ t = past in omega arith in
        let none : w / 2 ^ c % 2 ^ (t - c) ≡ 0 = low_none (w / 2 ^ c) (t - c) (λ s l.
        ap (λ (y : ℕ). y % 2) (shr-shr w c s ∙ sym (same (c + s) (omega arith))) ∙ trailing_low 64 left (c + s) (omega arith)) in
        ap (λ (y : ℕ). ones (w % 2 ^ y)) (sym e) ∙ ones_parts w c (t - c) ∙ omega (arith, ap ones none, ones_of_zero)

    -- one is taken away
    pub one_less : bit_and left (left - 1) ≡ w / 2 ^ suc t * 2 ^ suc t
    one_less =
        let half : w / 2 ^ t / 2 ≡ w / 2 ^ suc t = shr-shr w t 1 ∙ ap (λ (y : ℕ). w / 2 ^ y) (let e : t + 1 ≡ suc t = omega arith in e) in
        let top : left / 2 ^ t ≡ w / 2 ^ suc t * 2 + 1 = same t past ∙ omega (arith, half, hit) in
        and_less (w / 2 ^ suc t) t left (omega (arith, shr_split left t, low_left) ∙ ap (λ (y : ℕ). y * 2 ^ t) top)

-- the lowest of those that are left is the n-th
abbrev pub NthLeft : ℕ → ℕ → ℕ → Type 0
NthLeft w n v =
    let t = count_trailing_zeros 64 v in
    (t < 64) × (w / 2 ^ t % 2 ≡ 1) × (ones (w % 2 ^ t) + 1 ≡ n) × (bit_and v (v - 1) ≡ left w (suc t)) × (ones (w % 2 ^ suc t) ≡ n)

pub nth_left : (w c n v : ℕ) → w < 2 ^ 64 → v ≡ left w c → ones (w % 2 ^ c) + 1 ≡ n → n ≤ ones w → NthLeft w n v
nth_left w c n v small e nth enough =
    let some = some_left w c n (omega arith) enough in
    let one = hit w c small some in
    let before = ones_before w c small some in
    subst (λ (v : ℕ). NthLeft w n v) (sym e) (inside w c small some, one, omega arith, one_less w c small some, omega (arith, ones_more w (count_trailing_zeros 64 (left w c))))
