-- Rows of bays, which of them are lawful stretches, and the ways to cut bays into such. Nothing here knows of a round's calls.
use Rattle.std.specs.Prelude.{◌≡◌, ℕ, suc, ◌<◌, ◌≤◌, Bool, true, false, ◌⊎◌, List, [], ◌∷◌, length}
use Rattle.sets.specs.Lists.{Any, Each}
use Rattle.sets.specs.Sets.{is_member}
use Rattle.round.specs.Machine.{end, common}

-- the bays from `first` on, up to and without `past`
pub record Row : Type 0 where
  pub first : ℕ
  pub past : ℕ

-- j is p or above, and below q
abbrev pub Between : ℕ → ℕ → ℕ → Type 0
Between p q j = (p ≤ j) × (j < q)

abbrev pub Has : ℕ → Row → Type 0
Has j r = Between r.first r.past j

-- bay j is in one of the rows
abbrev pub In : List Row → ℕ → Type 0
In rows j = Any (Has j) rows

-- j is p or above, and below q, and in none of the rows
abbrev pub Clear : ℕ → ℕ → List Row → ℕ → Type 0
Clear p q rows j = Between p q j × (In rows j → ⊥)

-- no bay is in two of the rows
abbrev pub Apart : List Row → Type 0
Apart [] = Unit {0}
Apart (r ∷ rows) = ((j : ℕ) → Has j r → In rows j → ⊥) × Apart rows

-- none of the bays p to m - 1 is in s
abbrev pub Without : List Bool → ℕ → ℕ → Type 0
Without s p m = (j : ℕ) → p ≤ j → j < m → is_member s j ≡ false

-- the bays p to m - 1 are one or more, and have no member of f, or none of c, or are a single bay that is in both
abbrev pub Lawful : List Bool → List Bool → ℕ → ℕ → Type 0
Lawful f c p m = (p < m) × (Without f p m ⊎ (Without c p m ⊎ ((m ≡ suc p) × (common f c p ≡ true))))

-- a lawful stretch: such a row within 1 to the end
abbrev pub Stretch : List Bool → List Bool → Row → Type 0
Stretch f c r = (1 ≤ r.first) × (r.past ≤ suc (end f c)) × Lawful f c r.first r.past

-- lawful stretches such that each passed bay is in exactly one, and no other bay in any
pub record Cutting (f c : List Bool) (passed : ℕ → Type 0) (rows : List Row) : Type 0 where
  pub lawful : Each (Stretch f c) rows
  pub apart : Apart rows
  pub all : (j : ℕ) → passed j → In rows j
  pub only : (j : ℕ) → In rows j → passed j

-- n stretches cut the passed bays, and no fewer do
pub record Fewest (f c : List Bool) (passed : ℕ → Type 0) (n : ℕ) : Type 0 where
  pub some : (rows : List Row) × (Cutting f c passed rows × (length rows ≡ n))
  pub least : (rows : List Row) → Cutting f c passed rows → n ≤ length rows
