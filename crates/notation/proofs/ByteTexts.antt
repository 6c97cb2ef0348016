-- What is written of bytes is one word, and is read as them.
use Rattle.std.proofs.Common.{◌≡◌, ◌<◌, ◌/◌, ◌%◌, ◌^◌, ℕ, true, false, not, List, [], ◌∷◌, length, refl, ap, ◌∙◌, arith, inl, inr, lit<}
use Rattle.std.specs.Prelude.{codes, slice_index, Some, None}
use Rattle.std.specs.Result.{result_ok}
use Rattle.std.specs.List.{All}
use Rattle.std.proofs.lemmas.Bool.{and_right, cases_lt, lt-ltb, not-true}
use Rattle.std.proofs.lemmas.List.{get_or_past}
use Rattle.std.proofs.lemmas.List.Elements.{All-cons, All-get_or, All-head, All-nil, All-tail}
use Rattle.std.proofs.lemmas.List.Sums.{AllPass-from_list_all}
use Rattle.hex.specs.Hex.{decode_of, encode_lower, encode_with, lower_digits, IsBytes}
use Rattle.hex.proofs.HexLemmas.{decode_of-encode_lower, length-encode_with}
use Rattle.notation.specs.Numbers.{is_dash}
use Rattle.notation.specs.Parts.{bytes_of, bytes_text}
use Rattle.notation.specs.Words.{is_blank, IsWord}

-- a longer text is not `-`
pub is_dash-long : (text : List ℕ) → 1 < length text → is_dash text ≡ false
is_dash-long [] h = refl
is_dash-long (c ∷ []) h = absurd (omega arith)
is_dash-long (c ∷ d ∷ text) h = and_right _ _ refl

-- what reading makes of each kind of word
pub bytes_of-dash : (word : List ℕ) → is_dash word ≡ true → bytes_of word ≡ Some []
unfolding bytes_of
bytes_of-dash word dash = rw dash refl

pub bytes_of-empty : (word : List ℕ) → length word ≡ 0 → bytes_of word ≡ None
unfolding bytes_of
bytes_of-empty [] empty = refl
bytes_of-empty (c ∷ word) empty = absurd (omega arith)

pub bytes_of-hex : (word : List ℕ) → is_dash word ≡ false → 0 < length word → bytes_of word ≡ result_ok (decode_of word)
unfolding bytes_of
bytes_of-hex word other some = rw (other, lt-ltb 0 (length word) some) refl

-- what is written of none, and of some
pub bytes_text-none : (bytes : List ℕ) → length bytes ≡ 0 → bytes_text bytes ≡ codes "-"
unfolding bytes_text
bytes_text-none [] none = refl
bytes_text-none (b ∷ bytes) none = absurd (omega arith)

pub bytes_text-some : (bytes : List ℕ) → 0 < length bytes → bytes_text bytes ≡ encode_lower bytes
unfolding bytes_text
bytes_text-some [] some = absurd (omega arith)
bytes_text-some (b ∷ bytes) some = refl

-- all bytes, by their places
pub IsBytes-All : (bytes : List ℕ) → All (λ b. b < 2 ^ 8) bytes → IsBytes bytes
IsBytes-All bytes h i =
    elim (cases_lt i (length bytes)) [
      | inl within ↦ All-get_or (λ b. b < 2 ^ 8) bytes i 0 within h
      | inr past ↦ rw (get_or_past bytes i 0 past) (lit< tt)
    ]

-- no hex digit is a blank
digit-unblank : (d : ℕ) → d < 16 → is_blank (slice_index lower_digits d) ≡ false
digit-unblank d small =
    not-true (is_blank (slice_index lower_digits d))
    (All-get_or (λ c. not (is_blank c) ≡ true) lower_digits d 0 small (AllPass-from_list_all (λ c. not (is_blank c)) lower_digits refl))

unbroken-encode : (bytes : List ℕ) → All (λ b. b < 2 ^ 8) bytes → All (λ c. is_blank c ≡ false) (encode_lower bytes)
unfolding encode_with
unbroken-encode [] h = All-nil (λ c. is_blank c ≡ false)
unbroken-encode (b ∷ bytes) h =
    let low : b < 256 = All-head (λ d. d < 2 ^ 8) b bytes h in
    let high_digit : b / 16 < 16 = omega arith in
    let low_digit : b % 16 < 16 = omega arith in
    All-cons (λ c. is_blank c ≡ false) (slice_index lower_digits (b / 16)) (slice_index lower_digits (b % 16) ∷ encode_lower bytes)
    (digit-unblank (b / 16) high_digit)
    (All-cons (λ c. is_blank c ≡ false) (slice_index lower_digits (b % 16)) (encode_lower bytes) (digit-unblank (b % 16) low_digit)
    (unbroken-encode bytes (All-tail (λ d. d < 2 ^ 8) b bytes h)))

-- what is written of bytes is one word
pub IsWord-bytes_text : (bytes : List ℕ) → All (λ b. b < 2 ^ 8) bytes → IsWord (bytes_text bytes)
unfolding bytes_text
IsWord-bytes_text [] h = record {
  some = lit< tt;
  unbroken = All-cons (λ c. is_blank c ≡ false) 45 [] refl (All-nil (λ c. is_blank c ≡ false));
}
IsWord-bytes_text (b ∷ bytes) h = record {
  some = omega (arith, length-encode_with lower_digits (b ∷ bytes));
  unbroken = unbroken-encode (b ∷ bytes) h;
}

-- and is read as them
pub bytes_of-bytes_text : (bytes : List ℕ) → All (λ b. b < 2 ^ 8) bytes → bytes_of (bytes_text bytes) ≡ Some bytes
unfolding bytes_text
bytes_of-bytes_text [] h = bytes_of-dash (codes "-") refl
bytes_of-bytes_text (b ∷ bytes) h =
    let long : 1 < length (encode_lower (b ∷ bytes)) = omega (arith, length-encode_with lower_digits (b ∷ bytes)) in
    bytes_of-hex (encode_lower (b ∷ bytes)) (is_dash-long (encode_lower (b ∷ bytes)) long) (omega arith)
    ∙ ap result_ok (decode_of-encode_lower (b ∷ bytes) (IsBytes-All (b ∷ bytes) h))
