-- Lists of numbers are read from words of numbers, with one comma between each two.
use Rattle.std.proofs.Common.{◌≡◌, ◌≢◌, ◌<◌, ◌⊎◌, ℕ, false, List, [], ◌∷◌, length, get_or, map, refl, sym, ap, ◌∙◌, arith, inl, inr}
use Rattle.std.specs.Prelude.{◌==◌, codes, Option, Some, None}
use Rattle.std.specs.Char.{IsAsciiDigit}
use Rattle.std.specs.List.{All, join_with_byte, slice_split}
use Rattle.std.specs.Option.{option_map}
use Rattle.std.specs.Str.Parse.{AllDigits}
use Rattle.std.proofs.lemmas.Bool.{and_left, cases_Bool, ne_eqb}
use Rattle.std.proofs.lemmas.List.{get_or_append_left, length-map}
use Rattle.std.proofs.lemmas.List.Elements.{All-cons, All-from_get_or, All-head, All-nil, All-tail}
use Rattle.std.proofs.lemmas.List.Splits.{join_with_byte-slice_split, length-slice_split, slice_split_at, slice_split_none}
use Rattle.std.proofs.lemmas.Option.{none-some, same_Some}
use Rattle.std.proofs.lemmas.Slice.Eq.{bytes_eq-Decides}
use Rattle.std.proofs.lemmas.Str.Parse.{digit_at}
use Rattle.notation.specs.Numbers.{all_there, is_dash, number_of, numbers_of}
use Rattle.notation.proofs.Numerals.{digits-from_number_of}
use Rattle.notation.proofs.NumberLists.{numbers_of-dash, numbers_of-pieces}

-- what a number at the front of others shows of them
some_behind : (n : ℕ) (o : Option (List ℕ)) (ns : List ℕ) → option_map (λ all. n ∷ all) o ≡ Some ns
    → (rest : List ℕ) × (o ≡ Some rest) × (n ∷ rest ≡ ns)
some_behind n (Some rest) ns h = (rest, refl, same_Some (n ∷ rest) ns h)
some_behind n None ns h = absurd (none-some ns h)

-- a list where each is there, and the other way round
all_there-all : (read : List (Option ℕ)) (ns : List ℕ) → all_there read ≡ Some ns → read ≡ map Some ns
all_there-all [] ns h = ap (map Some) (same_Some [] ns h)
all_there-all (None ∷ read) ns h = absurd (none-some ns h)
all_there-all (Some n ∷ read) ns h =
    let behind = some_behind n (all_there read) ns h in
    ap (λ others. Some n ∷ others) (all_there-all read behind.0 behind.1) ∙ ap (map Some) behind.2

all_there-some : (ns : List ℕ) → all_there (map Some ns) ≡ Some ns
all_there-some [] = refl
all_there-some (n ∷ ns) = ap (option_map (λ all. n ∷ all)) (all_there-some ns)

-- a piece without a comma
abbrev NoComma : List ℕ → Type 0
NoComma piece = All (λ c. (c == 44) ≡ false) piece

-- a digit is no comma
digit-no_comma : (c : ℕ) → IsAsciiDigit c → (c == 44) ≡ false
digit-no_comma c h = grind arith

-- so a number has none
NoComma-digits : (digits : List ℕ) → AllDigits 10 digits → NoComma digits
NoComma-digits digits h =
    All-from_get_or (λ c. (c == 44) ≡ false) digits 0 (λ i within. digit-no_comma (get_or digits i 0) (digit_at digits i h within))

NoCommas-read : (pieces : List (List ℕ)) (ns : List ℕ) → map (number_of 65535) pieces ≡ map Some ns → All NoComma pieces
NoCommas-read [] ns h = All-nil NoComma
NoCommas-read (piece ∷ pieces) [] h = cc h
NoCommas-read (piece ∷ pieces) (n ∷ ns) h =
    All-cons NoComma piece pieces (NoComma-digits piece (digits-from_number_of 65535 piece n (cc h)).1) (NoCommas-read pieces ns (cc h))

-- a text that begins with a digit is not `-`
is_dash-other : (text : List ℕ) → get_or text 0 0 ≢ 45 → is_dash text ≡ false
is_dash-other [] h = refl
is_dash-other (c ∷ text) h = and_left _ _ (ne_eqb c 45 h)

-- pieces with commas between them are cut into these pieces
slice_split-join : (piece : List ℕ) (pieces : List (List ℕ)) → NoComma piece → All NoComma pieces
    → slice_split (λ c. c == 44) (join_with_byte 44 (piece ∷ pieces)) ≡ piece ∷ pieces
slice_split-join piece [] here others = slice_split_none (λ c. c == 44) piece here
slice_split-join piece (next ∷ pieces) here others =
    slice_split_at (λ c. c == 44) piece 44 (join_with_byte 44 (next ∷ pieces)) here refl
    ∙ ap (λ more. piece ∷ more)
    (slice_split-join next pieces (All-head NoComma next pieces others) (All-tail NoComma next pieces others))

-- and begin as the first of them
first-join : (piece : List ℕ) (pieces : List (List ℕ)) → 0 < length piece → get_or (join_with_byte 44 (piece ∷ pieces)) 0 0 ≡ get_or piece 0 0
first-join piece [] some = refl
first-join piece (next ∷ pieces) some = get_or_append_left piece (44 ∷ join_with_byte 44 (next ∷ pieces)) 0 0 some

-- pieces that are numbers, with commas between them, are read as these numbers
pub numbers_of-join : (pieces : List (List ℕ)) (ns : List ℕ) → 0 < length ns → map (number_of 65535) pieces ≡ map Some ns
    → numbers_of (join_with_byte 44 pieces) ≡ Some ns
numbers_of-join pieces [] some read = absurd (omega arith)
numbers_of-join [] (n ∷ ns) some read = cc read
numbers_of-join (piece ∷ pieces) (n ∷ ns) some read =
    let digits = digits-from_number_of 65535 piece n (cc read) in
    let digit : IsAsciiDigit (get_or piece 0 0) = digit_at piece 0 digits.1 digits.0 in
    let other : get_or (join_with_byte 44 (piece ∷ pieces)) 0 0 ≢ 45 = rw (first-join piece pieces digits.0) (λ dash. omega arith) in
    let whole = NoCommas-read (piece ∷ pieces) (n ∷ ns) read in
    numbers_of-pieces (join_with_byte 44 (piece ∷ pieces)) (is_dash-other (join_with_byte 44 (piece ∷ pieces)) other)
    ∙ ap (λ cut. all_there (map (number_of 65535) cut))
    (slice_split-join piece pieces (All-head NoComma piece pieces whole) (All-tail NoComma piece pieces whole))
    ∙ ap all_there read
    ∙ all_there-some (n ∷ ns)

-- and no other word but `-` is read as numbers
pub join-from_numbers_of : (word ns : List ℕ) → numbers_of word ≡ Some ns
    → ((word ≡ codes "-") × (ns ≡ []))
    ⊎ ((0 < length ns) × ((pieces : List (List ℕ)) × (word ≡ join_with_byte 44 pieces) × (map (number_of 65535) pieces ≡ map Some ns)))
join-from_numbers_of word ns h =
    elim (cases_Bool (is_dash word)) [
      | inl dash ↦ inl ((bytes_eq-Decides word (codes "-")).0 dash, sym (same_Some [] ns (sym (numbers_of-dash word dash) ∙ h)))
      | inr other ↦
          let pieces = slice_split (λ c. c == 44) word in
          let read = all_there-all (map (number_of 65535) pieces) ns (sym (numbers_of-pieces word other) ∙ h) in
          let long : length pieces ≡ length ns = sym (length-map pieces (number_of 65535)) ∙ ap length read ∙ length-map ns Some in
          inr (omega (arith, length-slice_split (λ c. c == 44) word, long), (pieces, sym (join_with_byte-slice_split 44 word), read))
    ]
