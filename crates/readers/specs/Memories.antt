-- The memories of two readers, of which as much counts as the shorter has.
use Rattle.std.specs.Prelude.{ℕ, List, length, min}

abbrev pub room : List ℕ → List ℕ → ℕ
room memory memory' = min (length memory) (length memory')
