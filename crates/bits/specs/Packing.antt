-- The law of the bytes of a bitvector.
use Rattle.std.specs.Prelude.{ℕ, ◌<◌, Bool, List}
use Rattle.sets.specs.Lists.{Each}
use Rattle.bits.specs.Checks.{Whole, Clear}
use Rattle.bits.specs.Rows.{TellsRow}

-- each number is a byte
abbrev pub Bytes : List ℕ → Type 0
Bytes = Each (λ b. b < 256)

-- the law of these bytes: there are as many as n bits take, each bit after the last is 0, and bit i is 1 exactly if i passes
abbrev pub Packs : ℕ → (ℕ → Bool) → List ℕ → Type 0
Packs n f bytes = Whole n bytes × Clear n bytes × Bytes bytes × TellsRow n f bytes
