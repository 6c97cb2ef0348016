-- A sum carries what the last bit before each was.
use Rattle.std.proofs.Common.{◌≡◌, ℕ, zero, suc, ◌+◌, ◌-◌, ◌*◌, ◌/◌, ◌%◌, ◌^◌, ◌<◌, ◌≤◌, min, max, Bool, true, false, not, ◌&&◌, ◌||◌, eqb, refl, sym, ap, ◌∙◌, arith, lt_of_le_of_lt, mod-lt, bit_or, div-one, shr-shr}
use lib.Bits.{bit_and, bit_xor}
use mir.Val.{bool_byte}
use native.Mathlib.Nat.{div-eq_of_lt}
use Rattle.std.proofs.lemmas.Nat.Bits.{bit_at_and, bit_at_or, bit_at_xor}
use Rattle.std.proofs.lemmas.Nat.{or_lt, and_le_l}
use Rattle.bits.specs.Words.{digit}
use Rattle.bits.proofs.Digits.{front_digit, not_digit}
use Rattle.strides.specs.Strides.{row_of, last_alone}
use Rattle.sets.specs.Packing.{digit_of}

-- a digit as a number, and back
pub digit_number : (x s : ℕ) → x / 2 ^ s % 2 ≡ digit_of (digit x s)
digit_number x s = small (x / 2 ^ s % 2) (mod-lt (x / 2 ^ s) (omega arith))
  where
    small : (d : ℕ) → d < 2 → d ≡ digit_of (eqb d 1)
    small zero l = refl
    small (suc zero) l = refl
    small (suc (suc d)) l = absurd (omega arith)

pub digit_back : (b : Bool) → eqb (digit_of b) 1 ≡ b
digit_back true = refl
digit_back false = refl

pub same_byte : (b : Bool) → bool_byte b ≡ digit_of b
same_byte true = refl
same_byte false = refl

pub last_none : (f c : ℕ → Bool) (was : Bool) → last_alone f c was 0 ≡ was
unfolding last_alone
last_none f c was = refl

pub last_more : (f c : ℕ → Bool) (was : Bool) (n : ℕ) → last_alone f c was (suc n) ≡ (not (c (suc n)) && (f (suc n) || last_alone f c was n))
unfolding last_alone
last_more f c was n = refl

-- of one place: the carry behind it, and the digit of the sum there, each from the two digits of the rows and the carry before it
carry_on : (o t l : Bool) → (1 - digit_of t + min (digit_of o) (1 - digit_of t) + digit_of l) / 2 ≡ digit_of (not t && (o || l))
carry_on true true true = refl
carry_on true true false = refl
carry_on true false true = refl
carry_on true false false = refl
carry_on false true true = refl
carry_on false true false = refl
carry_on false false true = refl
carry_on false false false = refl

sum_digit : (o t l : Bool) → ((1 - digit_of t + min (digit_of o) (1 - digit_of t) + digit_of l) % 2 + (1 - max (digit_of o) (digit_of t))) % 2 ≡ digit_of l
sum_digit true true true = refl
sum_digit true true false = refl
sum_digit true false true = refl
sum_digit true false false = refl
sum_digit false true true = refl
sum_digit false true false = refl
sum_digit false false true = refl
sum_digit false false false = refl

half : (x s : ℕ) → x / 2 ^ s / 2 ≡ x / 2 ^ suc s
half x s = let e : s + 1 ≡ suc s = omega arith in shr-shr x s 1 ∙ ap (λ (y : ℕ). x / 2 ^ y) e

-- own and other are the two rows, of 64 bits each
module _ (own other : ℕ) (was : Bool) (own-fits : own < 2 ^ 64) (other-fits : other < 2 ^ 64) where
  abbrev rest : ℕ
  rest = 2 ^ 64 - 1 - other

  abbrev alone : ℕ
  alone = bit_and own rest

  abbrev last : ℕ → Bool
  last = last_alone (row_of own) (row_of other) was

  rest_fits : rest < 2 ^ 64
  rest_fits = omega arith

  alone_fits : alone < 2 ^ 64
  alone_fits = lt_of_le_of_lt (and_le_l own rest) own-fits

  rest_at : (s : ℕ) → s < 64 → rest / 2 ^ s % 2 ≡ 1 - digit_of (digit other s)
  rest_at s l = omega (arith, not_digit 64 other s other-fits l, digit_number other s)

  alone_at : (s : ℕ) → s < 64 → alone / 2 ^ s % 2 ≡ min (digit_of (digit own s)) (1 - digit_of (digit other s))
  alone_at s l = bit_at_and own rest s ∙ (λ i. min (digit_number own s i) (rest_at s l i))

  carry_at : (s : ℕ) → s ≤ 64 → (rest + alone + digit_of was) / 2 ^ s ≡ rest / 2 ^ s + alone / 2 ^ s + digit_of (last s)
  carry_at zero l = omega (arith, div-one (rest + alone + digit_of was), div-one rest, div-one alone, ap digit_of (last_none (row_of own) (row_of other) was))
  carry_at (suc s) l =
      let on : (1 - digit_of (digit other s) + min (digit_of (digit own s)) (1 - digit_of (digit other s)) + digit_of (last s)) / 2 ≡ digit_of (last (suc s)) =
      carry_on (digit own s) (digit other s) (last s) ∙ ap digit_of (sym (last_more (row_of own) (row_of other) was s)) in
      let parts : (rest / 2 ^ s % 2 + alone / 2 ^ s % 2 + digit_of (last s)) / 2 ≡ digit_of (last (suc s)) =
      (λ i. (rest_at s (omega arith) i + alone_at s (omega arith) i + digit_of (last s)) / 2) ∙ on in
      omega (arith, carry_at s (omega arith), half (rest + alone + digit_of was) s, half rest s, half alone s, parts)

  -- what the sum of 64 digits is, with what it carries out
  module _ (sum : ℕ) (past : Bool) (sum-fits : sum < 2 ^ 64) (e : sum + bool_byte past * 2 ^ 64 ≡ rest + alone + bool_byte was) where
    abbrev neither : ℕ
    neither = 2 ^ 64 - 1 - bit_or own other

    neither_at : (s : ℕ) → s < 64 → neither / 2 ^ s % 2 ≡ 1 - max (digit_of (digit own s)) (digit_of (digit other s))
    neither_at s l =
        let both = bit_at_or own other s in
        omega (arith, not_digit 64 (bit_or own other) s (or_lt 64 own other own-fits other-fits) l, both, digit_number own s, digit_number other s)

    sum_at : (s : ℕ) → s < 64 → sum / 2 ^ s % 2 ≡ (1 - digit_of (digit other s) + min (digit_of (digit own s)) (1 - digit_of (digit other s)) + digit_of (last s)) % 2
    sum_at s l =
        let whole : sum % 2 ^ 64 ≡ (rest + alone + digit_of was) % 2 ^ 64 = omega (arith, e, sum-fits, same_byte past, same_byte was) in
        let low : (rest + alone + digit_of was) / 2 ^ s % 2 ≡ sum / 2 ^ s % 2 =
        sym (front_digit (rest + alone + digit_of was) 64 s l) ∙ ap (λ (y : ℕ). y / 2 ^ s % 2) (sym whole) ∙ front_digit sum 64 s l in
        omega (arith, low, carry_at s (omega arith), rest_at s l, alone_at s l)

    pub bits_last : (s : ℕ) → s < 64 → digit (bit_xor sum neither) s ≡ last s
    bits_last s l =
        ap (λ (d : ℕ). eqb d 1)
        (bit_at_xor sum neither s ∙ (λ i. (sum_at s l i + neither_at s l i) % 2) ∙ sum_digit (digit own s) (digit other s) (last s))
        ∙ digit_back (last s)

    pub past_last : past ≡ last 64
    past_last =
        let out : digit_of past ≡ digit_of (last 64) =
        omega (arith, e, sum-fits, same_byte past, same_byte was, carry_at 64 (omega arith), div-eq_of_lt rest_fits, div-eq_of_lt alone_fits) in
        sym (digit_back past) ∙ ap (λ (d : ℕ). eqb d 1) out ∙ digit_back (last 64)
