-- The text so far has the numbers so far.
use Rattle.std.proofs.Common.{◌≡◌, ◌++◌, ◌+◌, take}
use Rattle.std.specs.String.{string_bytes}
use Rattle.notation.specs.Numbers.{numbers_text}
use Rattle.notation.proofs.numbers.write_numbers.Given as goal

abbrev pub invariant-loop-number : goal.invariant-loop-number
invariant-loop-number l = string_bytes l.text ≡ string_bytes l.fn.text ++ numbers_text (take (l.number-index + 1) l.numbers)
