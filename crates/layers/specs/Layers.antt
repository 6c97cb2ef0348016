-- The sets that layers over a set stand for.
use Rattle.std.specs.Prelude.{◌≡◌, ℕ, ◌+◌, ◌-◌, ◌≤◌, min, max, Bool, List, length}
use Rattle.std.proofs.Common.{arith}
use Rattle.sets.specs.declared.Sort.{Sort}
use Rattle.sets.specs.declared.Sort.TheVariants.{Members, Others}
use Rattle.sets.specs.Sets.{is, is_member, Sized}
use Rattle.sets.specs.Made.{set_by, made_sized, MadeBy}

abbrev pub other : Sort → Sort
other Members = Others
other Others = Members

-- the same bays, of which those are members that are none beneath
abbrev pub turned : List Bool → List Bool
turned s = set_by (length s) (is s Others)

-- its law: the last bay is the same, and a bay is a member exactly if it is a non-member beneath
abbrev pub TurnedIs : List Bool → List Bool → Type 0
TurnedIs s t = MadeBy (length s) (is s Others) t

pub turned_sized : (s : List Bool) → Sized s → Sized (turned s)
turned_sized s h = made_sized (length s) (is s Others) h

-- the bays a to b, counted from 1
abbrev pub level : ℕ → ℕ → List Bool → List Bool
level a b s = set_by (b - a + 1) (λ i. is_member s (a + i - 1))

-- its law: the last bay is b - a + 1, and bay i is a member exactly if bay a + i - 1 is one beneath
abbrev pub LevelIs : ℕ → ℕ → List Bool → List Bool → Type 0
LevelIs a b s t = MadeBy (b - a + 1) (λ i. is_member s (a + i - 1)) t

-- two numbers that are bays of the set, the first not above the last
abbrev pub BaysOf : ℕ → ℕ → List Bool → Type 0
BaysOf a b s = (1 ≤ a) × (a ≤ b) × (b ≤ length s)

-- any two numbers, cut to bays of the set of which the first is not above the last
abbrev pub first_in : ℕ → List Bool → ℕ
first_in a s = max 1 (min a (length s))

abbrev pub last_in : ℕ → ℕ → List Bool → ℕ
last_in a b s = max (first_in a s) (min b (length s))

abbrev pub level_in : ℕ → ℕ → List Bool → List Bool
level_in a b s = level (first_in a s) (last_in a b s) s

-- the bays c to d are the bays a to b, cut to bays of the set; the level of the ones is the level of the others
abbrev pub IsCut : ℕ → ℕ → List Bool → ℕ → ℕ → Type 0
IsCut a b s c d = (c ≡ first_in a s) × (d ≡ last_in a b s) × (level_in c d s ≡ level_in a b s)

pub level_sized : (a b : ℕ) (s : List Bool) → Sized s → Sized (level_in a b s)
level_sized a b s h =
    made_sized (last_in a b s - first_in a s + 1) (λ i. is_member s (first_in a s + i - 1)) (omega (arith, h.0, h.1), omega (arith, h.0, h.1))
