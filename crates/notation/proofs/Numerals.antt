-- The numbers that words write, by the digits' value of the standard library.
use Rattle.std.proofs.Common.{rules, ◌≡◌, ◌<◌, ◌≤◌, ◌&&◌, ◌+◌, ◌-◌, ◌*◌, ℕ, true, List, length, get_or, take, lit≤, refl, arith, inl, inr}
use Rattle.std.specs.Prelude.{nat_le, nat_lt, Some, None}
use Rattle.std.specs.Char.{digit_value, is_ascii_digit, IsAsciiDigit, IsNotAsciiDigit}
use Rattle.std.specs.List.{list_all}
use Rattle.std.specs.Str.Parse.{digits_value, AllDigits}
use Rattle.std.proofs.lemmas.Bool.{and_parts, cases_Bool, le-leb, leb-true, lt-ltb, ltb-true}
use Rattle.std.proofs.lemmas.Int.Digits.{digits_more, digits_value_more}
use Rattle.std.proofs.lemmas.Option.{cond_some}
use Rattle.std.proofs.lemmas.Str.Parse.{digit_at, digits_value-take-le, numerals_by_weight, IsNumeralModel}
use Rattle.notation.specs.Numbers.{number_of, worth}

-- the words of digits, and what they are worth
pub numerals : IsNumeralModel (λ word. list_all is_ascii_digit word ≡ true) worth
numerals = numerals_by_weight _ (search rules) worth (search rules)

-- a word of digits that is worth no more than it may is a number
pub number_of-digits : (most : ℕ) (word : List ℕ) → 0 < length word → AllDigits 10 word → digits_value 10 word ≤ most
    → number_of most word ≡ Some (digits_value 10 word)
unfolding number_of
number_of-digits most word some digits low =
    rw (lt-ltb 0 (length word) some, numerals.from word digits, numerals.same word digits, le-leb (digits_value 10 word) most low) refl

-- no other word is
pub number_of-none : (most : ℕ) (word : List ℕ) → (0 < length word → AllDigits 10 word → digits_value 10 word ≤ most → ⊥)
    → number_of most word ≡ None
unfolding number_of
number_of-none most word not_so =
    elim (cases_Bool (nat_lt 0 (length word) && (list_all is_ascii_digit word && nat_le (worth word) most))) [
      | inl so ↦
          let parts = and_parts _ _ so in
          let more = and_parts _ _ parts.1 in
          let digits = numerals.to word more.0 in
          absurd (not_so (ltb-true 0 (length word) parts.0) digits (rw (← numerals.same word digits) (leb-true (worth word) most more.1)))
      | inr otherwise ↦ rw otherwise refl
    ]

-- a word that is a number is of digits
pub digits-from_number_of : (most : ℕ) (word : List ℕ) (n : ℕ) → number_of most word ≡ Some n → (0 < length word) × AllDigits 10 word
unfolding number_of
digits-from_number_of most word n h =
    let parts = and_parts _ _ (cond_some _ _ _ h).0 in
    (ltb-true 0 (length word) parts.0, numerals.to word (and_parts _ _ parts.1).0)

-- where an element is no digit, there is no number
pub number_of-stopped : (most : ℕ) (word : List ℕ) (i : ℕ) → i < length word → IsNotAsciiDigit (get_or word i 0)
    → number_of most word ≡ None
number_of-stopped most word i within other = number_of-none most word (λ some digits low.
    let digit = digit_at word i digits within in
    elim other [ inl below ↦ omega arith | inr above ↦ omega arith ])

-- where some digits are worth more than all may be, there is none either
pub number_of-above : (most : ℕ) (word : List ℕ) (i : ℕ) → most < digits_value 10 (take i word) → number_of most word ≡ None
number_of-above most word i high = number_of-none most word (λ some digits low. omega (arith, digits_value-take-le 10 word i (lit≤ tt)))

-- a decimal digit is worth how far it stands behind `0`
digit_value-decimal : (c : ℕ) → IsAsciiDigit c → digit_value c ≡ c - 48
digit_value-decimal c h = grind arith

-- one digit more
pub AllDigits-more : (word : List ℕ) (i : ℕ) → i < length word → IsAsciiDigit (get_or word i 0) → AllDigits 10 (take i word)
    → AllDigits 10 (take (i + 1) word)
AllDigits-more word i within digit digits =
    digits_more 10 word i within digits (rw (digit_value-decimal (get_or word i 0) digit) (omega arith))

pub digits_value-more : (word : List ℕ) (i n : ℕ) → i < length word → IsAsciiDigit (get_or word i 0) → n ≡ digits_value 10 (take i word)
    → n * 10 + (get_or word i 0 - 48) ≡ digits_value 10 (take (i + 1) word)
digits_value-more word i n within digit so_far =
    rw (digits_value_more 10 word i within, digit_value-decimal (get_or word i 0) digit, so_far) refl
