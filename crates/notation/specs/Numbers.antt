-- How a number and a list of numbers are written in a word.
use Rattle.std.specs.Prelude.{ℕ, ◌+◌, ◌-◌, ◌*◌, ◌^◌, ◌==◌, ◌&&◌, Bool, if◌then◌else◌, List, [], ◌∷◌, length, map, nat_lt, nat_le, codes, decimal, Option, Some, None}
use Rattle.std.specs.Char.{is_ascii_digit}
use Rattle.std.specs.List.{join_with_byte, list_all, slice_split}
use Rattle.std.specs.Option.{option_map}
use Rattle.std.specs.Str.{bytes_eq}

-- what decimal digits are worth: each of them ten to the power of how many follow it
abbrev pub worth : List ℕ → ℕ
worth [] = 0
worth (digit ∷ digits) = (digit - 48) * 10 ^ length digits + worth digits

-- the number that a word writes: one decimal digit or more, worth at most so much
unfoldable pub number_of : ℕ → List ℕ → Option ℕ
number_of most word =
    if nat_lt 0 (length word) && (list_all is_ascii_digit word && nat_le (worth word) most) then Some (worth word) else None

-- a list of numbers, where each is there
abbrev pub all_there : List (Option ℕ) → Option (List ℕ)
all_there [] = Some []
all_there (None ∷ rest) = None
all_there (Some n ∷ rest) = option_map (λ ns. n ∷ ns) (all_there rest)

-- whether a word is `-`, which writes a part of nothing
abbrev pub is_dash : List ℕ → Bool
is_dash word = bytes_eq word (codes "-")

-- the numbers that a word writes: `-` writes none; else each piece between commas is a number of 16 bits
unfoldable pub numbers_of : List ℕ → Option (List ℕ)
numbers_of word = if is_dash word then Some [] else all_there (map (number_of 65535) (slice_split (λ c. c == 44) word))

-- how numbers are written: in decimal with commas, and `-` for none
unfoldable pub numbers_text : List ℕ → List ℕ
numbers_text [] = codes "-"
numbers_text (n ∷ ns) = join_with_byte 44 (map decimal (n ∷ ns))
