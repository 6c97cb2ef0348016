-- The memory of a sheet, and how it reads.
use Rattle.std.specs.Prelude.{ℕ, List, [], ◌∷◌, ◌++◌, codes, decimal, replicate}
use Rattle.replay.specs.Plays.{room}
use Rattle.replay.specs.declared.calls.Call.{Call}

-- what a call is handed: of a sheet as many numbers as it asks for, each of them 7
abbrev pub memory_before : Call → List ℕ
memory_before x = replicate (room x) 7

-- a space before each number
unfoldable pub memory_text : List ℕ → List ℕ
memory_text [] = []
memory_text (n ∷ ns) = codes " " ++ (decimal n ++ memory_text ns)
