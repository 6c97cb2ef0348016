-- What an error says was expected.
use Rattle.std.specs.Prelude.{ℕ, List, codes}
use Rattle.commands.specs.declared.expected.Expected.{Expected}
use Rattle.commands.specs.declared.expected.Expected.TheVariants as expected

abbrev pub expected_text : Expected → List ℕ
expected_text expected.Command =
    codes "a command: open, pair, fill, turn, level, free, class, round, next, sheet, go, count, nearest, sign, pick or close"
expected_text expected.Slot = codes "a slot: free or class"
expected_text expected.Form = codes "a form: plain, list, zombit or pioneer"
expected_text expected.Question = codes "a question: last, holds, next, previous, rank or select"
expected_text expected.Sort = codes "a sort: member or other"
expected_text expected.Number = codes "a number from 0 to 4294967295"
expected_text expected.SheetNumber = codes "a number from 0 to 65536"
expected_text expected.Bytes = codes "a part in hex, two digits a byte, or -"
expected_text expected.Numbers = codes "a part of numbers from 0 to 65535 with commas, or -"
expected_text expected.End = codes "the end of the line"
expected_text expected.ShortLine = codes "a line of at most 800000 bytes"
expected_text expected.Newline = codes "a newline at the end of the line"
expected_text expected.Text = codes "a line of text"
