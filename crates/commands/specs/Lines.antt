-- What a line is read as.
use Rattle.std.specs.Prelude.{ℕ, Bool, false, not, List, [], ◌∷◌, length, nat_lt, ◌==◌, if◌then◌else◌, Option, None, Some, Result, Ok, Err}
use Rattle.std.specs.List.{list_all}
use Rattle.std.specs.Str.{is_utf8}
use Rattle.notation.specs.Words.{is_blank, words_of}
use Rattle.commands.specs.declared.expected.Expected.{Expected}
use Rattle.commands.specs.declared.expected.Expected.TheVariants as expected
use Rattle.commands.specs.Said.{Said}
use Rattle.commands.specs.Sentences.{reading}

-- its first byte is `#`
abbrev pub is_comment : List ℕ → Bool
is_comment [] = false
is_comment (c ∷ line) = c == 35

-- a command that was read is one that is not passed over
abbrev pub some_command : Result Said Expected → Result (Option Said) Expected
some_command (Ok x) = Ok (Some x)
some_command (Err e) = Err e

-- a line without its newline, which it ended with or not: the command; none where it is passed over; or what was expected
unfoldable pub line_read : List ℕ → Bool → Result (Option Said) Expected
line_read line ended =
    if is_comment line then Ok None
    else if nat_lt 800000 (length line) then Err expected.ShortLine
    else if list_all is_blank line then Ok None
    else if not ended then Err expected.Newline
    else if not (is_utf8 line) then Err expected.Text
    else some_command (reading (words_of line))
