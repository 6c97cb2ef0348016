-- The words of a line.
use Rattle.std.specs.Prelude.{ℕ, ◌≡◌, ◌<◌, Bool, false, List, length, nat_lt, filter}
use Rattle.std.specs.List.{All, join_with_byte, slice_split}
use Rattle.std.specs.Char.{is_ascii_whitespace}

-- a space, a tab, a newline, a form feed or a carriage return
abbrev pub is_blank : ℕ → Bool
is_blank c = is_ascii_whitespace c

-- the words of a line: the pieces between blanks that are not empty
unfoldable pub words_of : List ℕ → List (List ℕ)
words_of line = filter (λ piece. nat_lt 0 (length piece)) (slice_split is_blank line)

-- a text that is one word: not empty, and without a blank
pub record IsWord (text : List ℕ) : Type 0 where
  pub some : 0 < length text
  pub unbroken : All (λ c. is_blank c ≡ false) text

-- words in a line, with one space between each two
unfoldable pub spaced : List (List ℕ) → List ℕ
spaced words = join_with_byte 32 words
