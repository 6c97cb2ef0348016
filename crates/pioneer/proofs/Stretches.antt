-- Words of 64 bits: their bytes, the ones of a stretch of bays, and the bits of two together.
use Rattle.std.proofs.Common.{◌≡◌, ℕ, zero, suc, ◌+◌, ◌-◌, ◌*◌, ◌/◌, ◌%◌, ◌^◌, ◌<◌, ◌≤◌, min, Bool, true, false, ◌&&◌, ◌||◌, eqb, leb, ltb, List, length, get_or, refl, sym, ap, ◌∙◌, ⊎_elim, arith, mod-lt, pow_pos, bit_and, bit_or, shr-shr, lt_of_le_of_lt, lt_of_lt_of_le, pow_mono}
use Rattle.std.specs.Int.Bits.{and_lt}
use Rattle.std.proofs.lemmas.Bool.{cases_lt, both_ways, lt-ltb, le-ltb, le-leb, lt-leb, and_right, eq-eqb}
use Rattle.std.proofs.lemmas.Bool.Decides.{nat_tests}
use Rattle.std.proofs.lemmas.Nat.{or_lt}
use Rattle.std.proofs.lemmas.Nat.Bits.{bit_at_ones, bit_at_and}
use Rattle.bits.specs.Words.{digit, Holds}
use Rattle.bits.proofs.Adding.{or_digit}
use Rattle.bits.proofs.Digits.{masked, front_digit, high_zero}
use Rattle.bits.proofs.Held.{miss}
use Rattle.bits.proofs.Moved.{up_low, up_high}
use Rattle.bits.proofs.Values.{value_only}
use Rattle.sets.specs.Packing.{digit_of, value_of}
use Rattle.pioneer.specs.Packed.{FrontHolds}

and_true : (b : Bool) {c : Bool} → c ≡ true → (b && c) ≡ b
and_true true e = e
and_true false e = refl

module _ (f : ℕ → Bool) (p x : ℕ) (h : Holds f p 64 x) where
  -- the byte t of a word
  pub byte_held : (t : ℕ) → t < 8 → Holds f (p + 8 * t) 8 (x / 2 ^ (8 * t) % 256)
  byte_held t l = record {
    small = mod-lt (x / 2 ^ (8 * t)) (omega arith);
    place = λ s low.
        let at : suc (p + 8 * t + s) ≡ suc (p + (8 * t + s)) = omega arith in
        ap f at ∙ h.place (8 * t + s) (omega arith)
        ∙ ap (λ d. eqb d 1) (sym (front_digit (x / 2 ^ (8 * t)) 8 s low ∙ ap (λ (y : ℕ). y % 2) (shr-shr x (8 * t) s)));
  }

  pub byte_value : (t q : ℕ) → t < 8 → q ≡ p + 8 * t → x / 2 ^ (8 * t) % 256 ≡ value_of f q 8
  byte_value t q l e = value_only f (p + 8 * t) 8 _ (byte_held t l) ∙ ap (λ (k : ℕ). value_of f k 8) (sym e)

  -- its bits, and those of another
  pub either_held : (g : ℕ → Bool) (y : ℕ) → Holds g p 64 y → Holds (λ i. g i || f i) p 64 (bit_or x y)
  either_held g y k = record {
    small = or_lt 64 x y h.small k.small;
    place = λ s l. ap (λ b. b || f (suc (p + s))) (k.place s l) ∙ ap (λ b. digit y s || b) (h.place s l) ∙ sym (or_digit x y s);
  }

  -- its first n bits
  pub first_held : (n behind : ℕ) → n ≡ behind - (p + 1) → n < 64 → Holds (λ i. f i && ltb i behind) p 64 (bit_and x (1 * 2 ^ n % 2 ^ 64 - 1))
  first_held n behind e l =
      let same = masked x n 64 l in
      let small : x % 2 ^ n < 2 ^ n = mod-lt x (pow_pos n) in
      record {
        small = lt_of_le_of_lt (let same_le : bit_and x (1 * 2 ^ n % 2 ^ 64 - 1) ≤ x % 2 ^ n = omega (arith, same) in same_le) (lt_of_lt_of_le small (pow_mono (let m : n ≤ 64 = omega arith in m)));
        place = λ s b. ⊎_elim
            (λ less.
            and_true (f (suc (p + s))) (lt-ltb _ _ (omega (arith, e))) ∙ h.place s b
            ∙ ap (λ d. eqb d 1) (sym (ap (λ (y : ℕ). y / 2 ^ s % 2) same ∙ front_digit x n s less)))
            (λ more.
            and_right (f (suc (p + s))) _ (le-ltb _ _ (omega (arith, e)))
            ∙ sym (miss _ (ap (λ (y : ℕ). y / 2 ^ s % 2) same ∙ high_zero (x % 2 ^ n) n s small more)))
            (cases_lt s n);
      }

  -- all of them
  pub all_held : (behind : ℕ) → 64 ≤ behind - (p + 1) → Holds (λ i. f i && ltb i behind) p 64 x
  all_held behind l = record {
    small = h.small;
    place = λ s b. and_true (f (suc (p + s))) (lt-ltb _ _ (omega arith)) ∙ h.place s b;
  }

-- the bits from `first` on
pub from_held : (p first : ℕ) → p < first → first ≤ p + 64 → Holds (λ i. leb first i) p 64 ((2 ^ 64 - 1) * 2 ^ (first - p - 1) % 2 ^ 64)
from_held p first low high =
    let k = first - p - 1 in record {
      small = mod-lt ((2 ^ 64 - 1) * 2 ^ k) (pow_pos 64);
      place = λ s l. ⊎_elim
          (λ less. lt-leb _ _ (omega arith) ∙ sym (miss _ (up_low (2 ^ 64 - 1) k 64 s l less)))
          (λ more. le-leb _ _ (omega arith) ∙ sym (eq-eqb _ 1 (up_high (2 ^ 64 - 1) k 64 s l more ∙ bit_at_ones 64 (s - k) (omega arith))))
          (cases_lt s k);
    }

-- the bytes of a word, behind those that are right
pub laid_front : (f : ℕ → Bool) (w x : ℕ) (before after : List ℕ) → length after ≡ length before
    → ((j : ℕ) → j < 8 * w → get_or after j 0 ≡ get_or before j 0) → ((t : ℕ) → t < 8 → 8 * w + t < length before → get_or after (8 * w + t) 0 ≡ x / 2 ^ (8 * t) % 256)
    → Holds f (64 * w) 64 x → FrontHolds f (8 * w) before → FrontHolds f (8 * w + 8) after
laid_front f w x before after long front word held right j l within = ⊎_elim
    (λ less. front j less ∙ right j less (omega (arith, long)))
    (λ more.
    let t = j - 8 * w in
    let at : 8 * w + t ≡ j = omega arith in
    ap (λ (k : ℕ). get_or after k 0) (sym at) ∙ word t (omega arith) (omega (arith, long)) ∙ byte_value f (64 * w) x held t (8 * j) (omega arith) (omega arith))
    (cases_lt j (8 * w))

-- ---- two words together

and_digit : (x y s : ℕ) → digit (bit_and x y) s ≡ (digit x s && digit y s)
and_digit x y s = at (x / 2 ^ s % 2) (y / 2 ^ s % 2) (mod-lt (x / 2 ^ s) (omega arith)) (mod-lt (y / 2 ^ s) (omega arith)) (bit_at_and x y s)
  where
    at : (a b : ℕ) → a < 2 → b < 2 → bit_and x y / 2 ^ s % 2 ≡ min a b → digit (bit_and x y) s ≡ (eqb a 1 && eqb b 1)
    at a b l h e = ap (λ d. eqb d 1) e ∙ grind (arith, nat_tests)

digit_back : (b : Bool) → eqb (digit_of b / 2 ^ 0 % 2) 1 ≡ b
digit_back true = refl
digit_back false = refl

digit_low : (b : Bool) → digit_of b < 2
digit_low true = omega arith
digit_low false = omega arith

digit_same : (d : ℕ) (b : Bool) → d < 2 → eqb d 1 ≡ b → d ≡ digit_of b
digit_same zero false l e = refl
digit_same (suc zero) true l e = refl
digit_same zero true l e = absurd (both_ways _ refl e)
digit_same (suc zero) false l e = absurd (both_ways _ e refl)
digit_same (suc (suc d)) b l e = absurd (omega arith)

module _ (f : ℕ → Bool) (p x : ℕ) (h : Holds f p 64 x) where
  pub both_held : (g : ℕ → Bool) (y : ℕ) → Holds g p 64 y → Holds (λ i. f i && g i) p 64 (bit_and x y)
  both_held g y k = record {
    small = and_lt 64 x y h.small k.small;
    place = λ s l. ap (λ b. b && g (suc (p + s))) (h.place s l) ∙ ap (λ b. digit x s && b) (k.place s l) ∙ sym (and_digit x y s);
  }

  -- each bit one further, behind the one before
  pub shift_held : (carry : ℕ) → carry ≡ digit_of (f p) → Holds (λ i. f (i - 1)) p 64 (bit_or (x * 2 ^ 1 % 2 ^ 64) carry)
  shift_held carry e =
      let small : carry < 2 = omega (arith, e, digit_low (f p)) in
      let y = x * 2 ^ 1 % 2 ^ 64 in record {
        small = or_lt 64 y carry (mod-lt (x * 2 ^ 1) (pow_pos 64)) (omega arith);
        place = λ s l. ⊎_elim
            (λ zero'.
            let z : s ≡ 0 = omega arith in
            let at : suc (p + s) - 1 ≡ p = omega arith in
            let low : digit y s ≡ false = miss _ (up_low x 1 64 s l (omega arith)) in
            let here : digit carry s ≡ f p = ap (λ (k : ℕ). digit carry k) z ∙ ap (λ (k : ℕ). digit k 0) e ∙ digit_back (f p) in
            ap f at ∙ sym (or_digit y carry s ∙ (λ t. here t || low t) ∙ or_false (f p)))
            (λ more.
            let at : suc (p + s) - 1 ≡ suc (p + (s - 1)) = omega arith in
            let none : digit carry s ≡ false = miss _ (high_zero carry 1 s (omega arith) more) in
            ap f at ∙ h.place (s - 1) (omega arith) ∙ sym (or_digit y carry s ∙ (λ t. none t || eqb (up_high x 1 64 s l more t) 1)))
            (cases_lt s 1);
      }
    where
      or_false : (b : Bool) → (b || false) ≡ b
      or_false true = refl
      or_false false = refl

  -- the last of the 64
  pub last_digit : x / 2 ^ 63 ≡ digit_of (f (p + 64))
  last_digit =
      let at : suc (p + 63) ≡ p + 64 = omega arith in
      let small : x / 2 ^ 63 < 2 = omega (arith, h.small) in
      let same : x / 2 ^ 63 % 2 ≡ x / 2 ^ 63 = omega arith in
      digit_same (x / 2 ^ 63) (f (p + 64)) small (ap (λ d. eqb d 1) (sym same) ∙ sym (h.place 63 (omega arith)) ∙ ap f at)
