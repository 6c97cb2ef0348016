-- What is written of numbers is one word, and is read as them.
use Rattle.std.proofs.Common.{◌≡◌, ◌<◌, ◌≤◌, ◌^◌, ℕ, false, List, [], ◌∷◌, get_or, map, refl, ap, ◌∙◌, arith, lit<}
use Rattle.std.specs.Prelude.{decimal, Some}
use Rattle.std.specs.List.{All, join_with_byte}
use Rattle.std.proofs.lemmas.Fmt.{decimal_is_IsNumeral}
use Rattle.std.proofs.lemmas.List.{length-append}
use Rattle.std.proofs.lemmas.List.Elements.{All-append, All-cons, All-from_get_or, All-head, All-nil, All-tail}
use Rattle.std.proofs.lemmas.Str.Parse.{digit_at}
use Rattle.std.specs.Char.{IsAsciiDigit}
use Rattle.notation.specs.Numbers.{number_of, numbers_of, numbers_text}
use Rattle.notation.specs.Words.{is_blank, IsWord}
use Rattle.notation.proofs.Numerals.{number_of-digits}
use Rattle.notation.proofs.NumberWords.{numbers_of-join}

-- a printed number is read as itself
pub number_of-decimal : (most n : ℕ) → most < 2 ^ 32 → n ≤ most → number_of most (decimal n) ≡ Some n
number_of-decimal most n small low =
    let numeral = decimal_is_IsNumeral n (omega arith) in
    number_of-digits most (decimal n) numeral.0.0 numeral.0.1 (rw numeral.1 low) ∙ ap Some numeral.1

-- a digit is no blank
digit-unblank : (c : ℕ) → IsAsciiDigit c → is_blank c ≡ false
digit-unblank c h = grind arith

-- a printed number is one word
pub IsWord-decimal : (n : ℕ) → n < 2 ^ 32 → IsWord (decimal n)
IsWord-decimal n small =
    let numeral = decimal_is_IsNumeral n (omega arith) in
    record {
      some = numeral.0.0;
      unbroken = All-from_get_or (λ c. is_blank c ≡ false) (decimal n) 0
          (λ i within. digit-unblank (get_or (decimal n) i 0) (digit_at (decimal n) i numeral.0.1 within));
    }

-- pieces with commas between them are one word, if each of them is
IsWord-join : (piece : List ℕ) (pieces : List (List ℕ)) → IsWord piece → All IsWord pieces → IsWord (join_with_byte 44 (piece ∷ pieces))
IsWord-join piece [] here others = here
IsWord-join piece (next ∷ pieces) here others =
    let more = IsWord-join next pieces (All-head IsWord next pieces others) (All-tail IsWord next pieces others) in
    record {
      some = omega (arith, here.some, length-append piece (44 ∷ join_with_byte 44 (next ∷ pieces)));
      unbroken = All-append (λ c. is_blank c ≡ false) piece (44 ∷ join_with_byte 44 (next ∷ pieces)) here.unbroken
          (All-cons (λ c. is_blank c ≡ false) 44 (join_with_byte 44 (next ∷ pieces)) refl more.unbroken);
    }

-- numbers of 16 bits, printed
IsWords-decimal : (ns : List ℕ) → All (λ n. n < 2 ^ 16) ns → All IsWord (map decimal ns)
IsWords-decimal [] h = All-nil IsWord
IsWords-decimal (n ∷ ns) h =
    All-cons IsWord (decimal n) (map decimal ns) (IsWord-decimal n (omega (arith, All-head (λ m. m < 2 ^ 16) n ns h)))
    (IsWords-decimal ns (All-tail (λ m. m < 2 ^ 16) n ns h))

-- what is written of numbers is one word
pub IsWord-numbers_text : (ns : List ℕ) → All (λ n. n < 2 ^ 16) ns → IsWord (numbers_text ns)
unfolding numbers_text
IsWord-numbers_text [] h = record {
  some = lit< tt;
  unbroken = All-cons (λ c. is_blank c ≡ false) 45 [] refl (All-nil (λ c. is_blank c ≡ false));
}
IsWord-numbers_text (n ∷ ns) h =
    let words = IsWords-decimal (n ∷ ns) h in
    IsWord-join (decimal n) (map decimal ns) (All-head IsWord (decimal n) (map decimal ns) words)
    (All-tail IsWord (decimal n) (map decimal ns) words)

-- and is read as them
read-decimal : (ns : List ℕ) → All (λ n. n < 2 ^ 16) ns → map (number_of 65535) (map decimal ns) ≡ map Some ns
read-decimal [] h = refl
read-decimal (n ∷ ns) h =
    let low : n < 65536 = All-head (λ m. m < 2 ^ 16) n ns h in
    rw (number_of-decimal 65535 n (lit< tt) (omega arith), read-decimal ns (All-tail (λ m. m < 2 ^ 16) n ns h)) refl

pub numbers_of-numbers_text : (ns : List ℕ) → All (λ n. n < 2 ^ 16) ns → numbers_of (numbers_text ns) ≡ Some ns
unfolding numbers_of numbers_text
numbers_of-numbers_text [] h = refl
numbers_of-numbers_text (n ∷ ns) h = numbers_of-join (map decimal (n ∷ ns)) (n ∷ ns) (omega arith) (read-decimal (n ∷ ns) h)
