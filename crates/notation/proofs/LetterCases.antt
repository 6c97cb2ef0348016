-- Bytes are read from their hex digits, in either case.
use Rattle.std.proofs.Common.{◌≡◌, ◌≢◌, ◌<◌, ◌≤◌, ◌^◌, ◌+◌, ◌*◌, ◌/◌, ◌%◌, ℕ, suc, Bool, true, List, [], ◌∷◌, length, refl, sym, ap, ◌∙◌, arith, inl, inr}
use Rattle.std.specs.Prelude.{◌==◌, codes, slice_index, Option, Some, None, Result, Ok, Err}
use Rattle.std.specs.Option.{option_map, unwrap_or}
use Rattle.std.specs.Result.{result_ok, result_unwrap_or}
use Rattle.std.specs.Char.{to_ascii_lowercase}
use Rattle.std.specs.List.{All}
use Rattle.std.specs.Str.{str_to_ascii_lowercase}
use Rattle.std.proofs.lemmas.Bool.{agree_below_at, cases_Bool, cases_lt, eqb-true}
use Rattle.std.proofs.lemmas.List.{length-map}
use Rattle.std.proofs.lemmas.List.Elements.{All-from_get_or, All-nil}
use Rattle.std.proofs.lemmas.Option.{none-some, same_Some}
use Rattle.std.proofs.lemmas.Slice.Eq.{bytes_eq-Decides}
use Rattle.hex.specs.Hex.{decode_of, decode_pairs, digit_or_error, encode_lower, encode_with, hex_digit_value, lower_digits, pair_value, value_at, IsBytes, ◌>>=◌}
use Rattle.hex.specs.declared.error.FromHexError.{FromHexError}
use Rattle.hex.proofs.HexLemmas.{decode_of-even, decode_of-ok, IsDigits-lower_digits, length-encode_with}
use Rattle.hex.proofs.Pairs.{cons_byte, decode_pairs-ok_pair}
use Rattle.notation.specs.Numbers.{is_dash}
use Rattle.notation.specs.Parts.{bytes_of, bytes_text}
use Rattle.notation.proofs.ByteTexts.{bytes_of-dash, bytes_of-empty, bytes_of-hex, bytes_text-none, bytes_text-some, is_dash-long, IsBytes-All}

-- whether a digit is written in lower case as the table writes what it is worth
abbrev lower_agrees : ℕ → Bool
lower_agrees c = unwrap_or (option_map (λ v. to_ascii_lowercase c == slice_index lower_digits v) (hex_digit_value c)) true

-- whether a digit is worth the same in lower case
abbrev value_agrees : ℕ → Bool
value_agrees c = unwrap_or (hex_digit_value (to_ascii_lowercase c)) 99 == unwrap_or (hex_digit_value c) 99

-- no other byte is a digit, and lower case leaves it as it is
no_digit : (c v : ℕ) → 128 ≤ c → hex_digit_value c ≢ Some v
no_digit c v above h = grind arith

lower_above : (c : ℕ) → 128 ≤ c → to_ascii_lowercase c ≡ c
lower_above c above = grind arith

-- and `-` alone becomes `-`
dash_byte : (c : ℕ) → to_ascii_lowercase c ≡ 45 → c ≡ 45
dash_byte c h = grind arith

-- a value that is there
some_from_unwrap : (o : Option ℕ) (v : ℕ) → v < 16 → unwrap_or o 99 ≡ v → o ≡ Some v
some_from_unwrap (Some w) v small e = ap Some e
some_from_unwrap None v small e = absurd (omega arith)

-- a digit in lower case is the table's
lower-digit : (c v : ℕ) → hex_digit_value c ≡ Some v → to_ascii_lowercase c ≡ slice_index lower_digits v
lower-digit c v h =
    elim (cases_lt c 128) [
      | inl ascii ↦ eqb-true _ _ (rw h at (agree_below_at lower_agrees (λ _. true) 128 c refl ascii))
      | inr above ↦ absurd (no_digit c v above h)
    ]

-- and what is one of the table's in lower case is a digit
digit-lower : (c v : ℕ) → v < 16 → to_ascii_lowercase c ≡ slice_index lower_digits v → hex_digit_value c ≡ Some v
digit-lower c v small h =
    let read : hex_digit_value (to_ascii_lowercase c) ≡ Some v = ap hex_digit_value h ∙ IsDigits-lower_digits v small in
    elim (cases_lt c 128) [
      | inl ascii ↦
          let same = eqb-true _ _ (agree_below_at value_agrees (λ _. true) 128 c refl ascii) in
          some_from_unwrap (hex_digit_value c) v small (sym same ∙ ap (λ o. unwrap_or o 99) read)
      | inr above ↦ ap hex_digit_value (sym (lower_above c above)) ∙ read
    ]

-- what an `Ok` after `>>=` shows
bind_ok : {A B : Type 0} (r : Result A FromHexError) (f : A → Result B FromHexError) (y : B)
    → (r >>= f) ≡ Ok y → (x : A) × (r ≡ Ok x) × (f x ≡ Ok y)
bind_ok (Ok x) f y h = (x, refl, h)
bind_ok (Err e) f y h = cc h

-- the value of a digit that was read
digit_read : (c i : ℕ) (o : Option ℕ) (v : ℕ) → digit_or_error c i o ≡ Ok v → o ≡ Some v
digit_read c i (Some w) v h = ap Some (ap (λ (r : Result ℕ FromHexError). result_unwrap_or r 0) h)
digit_read c i None v h = cc h

-- a digit is worth less than sixteen
hex_digit_value-small : (c v : ℕ) → hex_digit_value c ≡ Some v → v < 16
hex_digit_value-small c v h = grind arith

-- pairs of digits are in lower case what is written of their bytes
lower-pairs : (i : ℕ) (digits bytes : List ℕ) → decode_pairs i digits ≡ Ok bytes → str_to_ascii_lowercase digits ≡ encode_lower bytes
unfolding decode_pairs encode_with
lower-pairs i [] bytes h =
    let e : [] ≡ bytes = ap (λ (r : Result (List ℕ) FromHexError). result_unwrap_or r []) h in
    rw (← e) refl
lower-pairs i (a ∷ []) bytes h = cc h
lower-pairs i (a ∷ b ∷ rest) bytes h =
    let p0 = bind_ok (pair_value a b i) _ bytes h in
    let p1 = bind_ok (value_at a i) _ p0.0 p0.1 in
    let p2 = bind_ok (value_at b (i + 1)) _ p0.0 p1.2 in
    let p3 = bind_ok (decode_pairs (i + 2) rest) _ bytes p0.2 in
    let high : hex_digit_value a ≡ Some p1.0 = digit_read a i (hex_digit_value a) p1.0 p1.1 in
    let low : hex_digit_value b ≡ Some p2.0 = digit_read b (i + 1) (hex_digit_value b) p2.0 p2.1 in
    let small = hex_digit_value-small b p2.0 low in
    let byte : p1.0 * 16 + p2.0 ≡ p0.0 = ap (λ (r : Result ℕ FromHexError). result_unwrap_or r 0) p2.2 in
    let all : p0.0 ∷ p3.0 ≡ bytes = ap (λ (r : Result (List ℕ) FromHexError). result_unwrap_or r []) p3.2 in
    let first : p0.0 / 16 ≡ p1.0 = omega arith in
    let second : p0.0 % 16 ≡ p2.0 = omega arith in
    rw (← all, lower-digit a p1.0 high, lower-digit b p2.0 low, lower-pairs (i + 2) rest p3.0 p3.1, first, second) refl

-- and digits that are so are read as the bytes
pairs-lower : (i : ℕ) (digits bytes : List ℕ) → IsBytes bytes → str_to_ascii_lowercase digits ≡ encode_lower bytes
    → decode_pairs i digits ≡ Ok bytes
unfolding decode_pairs encode_with
pairs-lower i [] [] h same = refl
pairs-lower i (a ∷ digits) [] h same = cc same
pairs-lower i [] (b ∷ bytes) h same = cc same
pairs-lower i (a ∷ []) (b ∷ bytes) h same = cc same
pairs-lower i (a ∷ d ∷ digits) (b ∷ bytes) h same =
    let fits : b < 256 = h 0 in
    let high : b / 16 < 16 = omega arith in
    let low : b % 16 < 16 = omega arith in
    let first : to_ascii_lowercase a ≡ slice_index lower_digits (b / 16) = cc same in
    let second : to_ascii_lowercase d ≡ slice_index lower_digits (b % 16) = cc same in
    let others : str_to_ascii_lowercase digits ≡ encode_lower bytes = cc same in
    let ha : value_at a i ≡ Ok (b / 16) = ap (digit_or_error a i) (digit-lower a (b / 16) high first) in
    let hd : value_at d (i + 1) ≡ Ok (b % 16) = ap (digit_or_error d (i + 1)) (digit-lower d (b % 16) low second) in
    let pair : pair_value a d i ≡ Ok (b / 16 * 16 + b % 16) = rw (ha, hd) refl in
    let whole : b / 16 * 16 + b % 16 ≡ b = omega arith in
    decode_pairs-ok_pair i a d _ digits pair
    ∙ ap (cons_byte (b / 16 * 16 + b % 16)) (pairs-lower (i + 2) digits bytes (λ k. h (suc k)) others)
    ∙ ap (λ (v : ℕ). Ok (v ∷ bytes)) whole

-- text of an even length is read by its pairs, and other text is not read
decode_pairs-from_decode_of : (word bytes : List ℕ) → decode_of word ≡ Ok bytes → decode_pairs 0 word ≡ Ok bytes
decode_pairs-from_decode_of word bytes h =
    sym (decode_of-even word (decode_of-ok word bytes h).0) ∙ h

-- the value that is there
ok_from_some : (r : Result (List ℕ) FromHexError) (bytes : List ℕ) → result_ok r ≡ Some bytes → r ≡ Ok bytes
ok_from_some (Ok x) bytes h = cc h
ok_from_some (Err e) bytes h = cc h

-- a word of one byte that is `-` in lower case
dash-lower : (word : List ℕ) → str_to_ascii_lowercase word ≡ codes "-" → word ≡ codes "-"
dash-lower [] h = cc h
dash-lower (c ∷ []) h = ap (λ b. b ∷ []) (dash_byte c (cc h))
dash-lower (c ∷ d ∷ word) h = cc h

-- what is decoded is in lower case what is written of the bytes
lower-from_decode_of : (word bytes : List ℕ) → 0 < length word → decode_of word ≡ Ok bytes
    → All (λ b. b < 2 ^ 8) bytes × (str_to_ascii_lowercase word ≡ bytes_text bytes)
lower-from_decode_of word bytes some h =
    let parts = decode_of-ok word bytes h in (
      All-from_get_or (λ b. b < 2 ^ 8) bytes 0 (λ i _. parts.3 i),
      lower-pairs 0 word bytes (decode_pairs-from_decode_of word bytes h) ∙ sym (bytes_text-some bytes (omega (arith, parts.2))),
    )

-- what is read as bytes is in lower case what is written of them
pub lower-from_bytes_of : (word bytes : List ℕ) → bytes_of word ≡ Some bytes
    → All (λ b. b < 2 ^ 8) bytes × (str_to_ascii_lowercase word ≡ bytes_text bytes)
lower-from_bytes_of word bytes h =
    elim (cases_Bool (is_dash word)) [
      | inl dash ↦
          let none : [] ≡ bytes = same_Some [] bytes (sym (bytes_of-dash word dash) ∙ h) in
          let is : word ≡ codes "-" = (bytes_eq-Decides word (codes "-")).0 dash in
          rw (← none, is) (All-nil (λ b. b < 2 ^ 8), sym (bytes_text-none [] refl))
      | inr other ↦ elim (cases_lt 0 (length word)) [
        | inl some ↦ lower-from_decode_of word bytes some (ok_from_some _ bytes (sym (bytes_of-hex word other some) ∙ h))
        | inr empty ↦ absurd (none-some bytes (sym (bytes_of-empty word (omega arith)) ∙ h))
      ]
    ]

pub bytes_of-lower : (word bytes : List ℕ) → All (λ b. b < 2 ^ 8) bytes → str_to_ascii_lowercase word ≡ bytes_text bytes → bytes_of word ≡ Some bytes
bytes_of-lower word [] h same = rw (dash-lower word (same ∙ bytes_text-none [] refl)) (bytes_of-dash (codes "-") refl)
bytes_of-lower word (b ∷ bytes) h same =
    let written : str_to_ascii_lowercase word ≡ encode_lower (b ∷ bytes) = same ∙ bytes_text-some (b ∷ bytes) (omega arith) in
    let long : length word ≡ 2 * length (b ∷ bytes) =
    sym (length-map word to_ascii_lowercase) ∙ ap length written ∙ length-encode_with lower_digits (b ∷ bytes) in
    bytes_of-hex word (is_dash-long word (omega (arith, long))) (omega (arith, long))
    ∙ ap result_ok (decode_of-even word (omega (arith, long)) ∙ pairs-lower 0 word (b ∷ bytes) (IsBytes-All (b ∷ bytes) h) written)
