-- Digits moved up and down, and two numbers as one.
use Rattle.std.proofs.Common.{◌≡◌, ℕ, suc, ◌+◌, ◌-◌, ◌*◌, ◌/◌, ◌%◌, ◌^◌, ◌<◌, ◌≤◌, Bool, eqb, sym, ap, ◌∙◌, ⊎_elim, add-zero, lt_of_le_of_lt, arith, pow_pos, bit_or, shr-shr}
use lib.Pow.{shr_le}
use Rattle.std.proofs.lemmas.Bool.{cases_lt}
use Rattle.std.proofs.lemmas.Nat.{or_lt, mod_below}
use Rattle.std.proofs.lemmas.Nat.Bits.{bit_at_or, bit_at-zero, bit_at_cat_low, bit_at_cat_high}
use Rattle.bits.specs.Words.{Holds}
use Rattle.bits.proofs.Digits.{high_zero, front_digit}
use Rattle.bits.proofs.Held.{Without, longer}

-- ---- up by k, at m bits

pub up_low : (y k m t : ℕ) → t < m → t < k → y * 2 ^ k % 2 ^ m / 2 ^ t % 2 ≡ 0
up_low y k m t l h =
    let none : y * 2 ^ k + 0 ≡ y * 2 ^ k = add-zero _ in
    front_digit (y * 2 ^ k) m t l ∙ ap (λ (z : ℕ). z / 2 ^ t % 2) (sym none) ∙ bit_at_cat_low y k 0 t h ∙ bit_at-zero t

pub up_high : (y k m t : ℕ) → t < m → k ≤ t → y * 2 ^ k % 2 ^ m / 2 ^ t % 2 ≡ y / 2 ^ (t - k) % 2
up_high y k m t l h =
    let none : y * 2 ^ k + 0 ≡ y * 2 ^ k = add-zero _ in
    front_digit (y * 2 ^ k) m t l ∙ ap (λ (z : ℕ). z / 2 ^ t % 2) (sym none) ∙ bit_at_cat_high y k 0 t (pow_pos k) h

-- ---- 64 bits from any on

-- the low s bits of the byte b, as the highest of 64
abbrev pub highest : ℕ → ℕ → ℕ
highest s b = b * 2 % 2 ^ 64 * 2 ^ (63 - s) % 2 ^ 64

module _ (f : ℕ → Bool) (p s x : ℕ) (low : s < 8) (held : Holds f p 64 x) where
  small : x / 2 ^ s < 2 ^ 64
  small = lt_of_le_of_lt (shr_le x s) held.small

  lower : (t : ℕ) → x / 2 ^ s / 2 ^ t % 2 ≡ x / 2 ^ (s + t) % 2
  lower t = ap (λ (y : ℕ). y % 2) (shr-shr x s t)

  -- where none of those behind passes
  pub past_held : Without f (p + 64) (p + 64 + s) → Holds f (p + s) 64 (x / 2 ^ s)
  past_held none = record {
    small = small;
    place = λ t l.
        let e : suc (p + s + t) ≡ suc (p + (s + t)) = omega arith in
        let more : Holds f p (s + 64) x = longer f p 64 (s + 64) x held (omega arith) (λ j a b. none j a (omega arith)) in
        ap f e ∙ more.place (s + t) (omega arith) ∙ ap (λ d. eqb d 1) (sym (lower t));
  }

  -- and with those behind, of which b holds eight
  module _ (b : ℕ) (behind : Holds f (p + 64) 8 b) where
    highest_low : (t : ℕ) → t + s < 64 → highest s b / 2 ^ t % 2 ≡ 0
    highest_low t l = ⊎_elim
        (λ less. up_low (b * 2 % 2 ^ 64) (63 - s) 64 t (omega arith) less)
        (λ same.
        let e : t - (63 - s) ≡ 0 = omega arith in
        up_high (b * 2 % 2 ^ 64) (63 - s) 64 t (omega arith) same ∙ ap (λ (y : ℕ). b * 2 % 2 ^ 64 / 2 ^ y % 2) e ∙ up_low b 1 64 0 (omega arith) (omega arith))
        (cases_lt t (63 - s))

    highest_high : (t : ℕ) → t < 64 → 64 ≤ t + s → highest s b / 2 ^ t % 2 ≡ b / 2 ^ (t + s - 64) % 2
    highest_high t l h =
        let e : t - (63 - s) - 1 ≡ t + s - 64 = omega arith in
        up_high (b * 2 % 2 ^ 64) (63 - s) 64 t l (omega arith) ∙ up_high b 1 64 (t - (63 - s)) (omega arith) (omega arith) ∙ ap (λ (y : ℕ). b / 2 ^ y % 2) e

    pub across_held : Holds f (p + s) 64 (bit_or (x / 2 ^ s) (highest s b))
    across_held = record {
      small = or_lt 64 _ _ small (mod_below _ (2 ^ 64) (pow_pos 64));
      place = λ t l.
          let both = bit_at_or (x / 2 ^ s) (highest s b) t in
          ⊎_elim
          (λ less.
          let e : suc (p + s + t) ≡ suc (p + (s + t)) = omega arith in
          ap f e ∙ held.place (s + t) (omega arith) ∙ ap (λ d. eqb d 1) (sym (omega (arith, both, lower t, highest_low t (omega arith)))))
          (λ more.
          let e : suc (p + s + t) ≡ suc (p + 64 + (t + s - 64)) = omega arith in
          ap f e ∙ behind.place (t + s - 64) (omega arith)
          ∙ ap (λ d. eqb d 1) (sym (omega (arith, both, lower t, high_zero x 64 (s + t) held.small (omega arith), highest_high t l (omega arith)))))
          (cases_lt (t + s) 64);
    }
