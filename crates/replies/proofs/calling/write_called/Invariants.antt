-- The text so far has the answer and the numbers so far.
use Rattle.std.proofs.Common.{◌≡◌, ◌++◌, take}
use Rattle.std.specs.String.{string_bytes}
use Rattle.replies.specs.Sheets.{memory_text}
use Rattle.replies.specs.Texts.{called_text}
use Rattle.replies.proofs.calling.write_called.Given as goal

abbrev pub invariant-loop-number : goal.invariant-loop-number
invariant-loop-number l = string_bytes l.text ≡ string_bytes l.fn.text ++ (called_text l.fn.called.0 ++ memory_text (take l.number-index l.memory))
