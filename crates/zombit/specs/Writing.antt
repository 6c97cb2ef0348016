-- What a row tells of a block.
use Rattle.std.specs.Prelude.{◌≡◌, ℕ, ◌+◌, ◌*◌, Bool, List}
use Rattle.sets.specs.Sets.{is_member}
use Rattle.zombit.specs.Lawful.{Place}

-- the β bits of the row after the first a are the places of block k
abbrev pub TellsBlock : ℕ → List Bool → ℕ → ℕ → (ℕ → Bool) → Type 0
TellsBlock β s k a row = (j : ℕ) → Place β j → row (a + j) ≡ is_member s (k * β + j)
