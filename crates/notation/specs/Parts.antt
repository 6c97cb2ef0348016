-- How a part of bytes is written in a word: in hex.
use Rattle.std.specs.Prelude.{ℕ, if◌then◌else◌, List, [], ◌∷◌, length, nat_lt, codes, Option, Some, None}
use Rattle.std.specs.Result.{result_ok}
use Rattle.hex.specs.Hex.{decode_of, encode_lower}
use Rattle.notation.specs.Numbers.{is_dash}

-- the bytes that a word writes: `-` writes none; else two hex digits a byte, in either case, for one byte or more
unfoldable pub bytes_of : List ℕ → Option (List ℕ)
bytes_of word = if is_dash word then Some [] else if nat_lt 0 (length word) then result_ok (decode_of word) else None

-- how bytes are written: two lower-case hex digits a byte, and `-` for none
unfoldable pub bytes_text : List ℕ → List ℕ
bytes_text [] = codes "-"
bytes_text (b ∷ bs) = encode_lower (b ∷ bs)
