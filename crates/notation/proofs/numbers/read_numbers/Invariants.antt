-- The numbers so far are those of the pieces so far.
use Rattle.std.proofs.Common.{◌≡◌, length, map, take}
use Rattle.std.specs.Prelude.{◌==◌, Some}
use Rattle.std.specs.List.{slice_split}
use Rattle.notation.specs.Numbers.{all_there, number_of}
use Rattle.notation.proofs.numbers.read_numbers.Given as goal

abbrev pub invariant-loop-piece : goal.invariant-loop-piece
invariant-loop-piece l =
    all_there (map (number_of 65535) (take (length l.yielded) (slice_split (λ c. c == 44) l.word))) ≡ Some l.numbers.items
