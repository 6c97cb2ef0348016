-- What making a level answers.
use Rattle.std.specs.Prelude.{◌≡◌, ℕ, ◌<◌, ◌≤◌, Bool, cond, ◌⊎◌, List, length, Ok, Err, Result, nat_le}
use Rattle.faults.specs.Numbers.{RefusedBy}
use Rattle.faults.specs.declared.fault.Refusal.{Refusal}
use Rattle.faults.specs.declared.fault.Refusal.TheVariants.{NoBay, Beyond}
use Rattle.layers.specs.declared.level.Level.{Level}
use Rattle.layers.specs.Layers.{LevelIs, level_in}

-- a set with the first and the last bay of its level, or the set itself with the refusal
abbrev pub Levelled : Type 0 → Type 0
Levelled S = Result (S × ℕ × ℕ) (S × Refusal)

-- the level of the bays a to b over a set of u bays
abbrev pub levelling : {S : Type 0} → S → ℕ → ℕ → ℕ → Levelled S
levelling below u a b =
    cond (nat_le 1 a)
    (cond (nat_le a b) (cond (nat_le b u) (Ok (below, a, b)) (Err (below, Beyond))) (Err (below, NoBay)))
    (Err (below, NoBay))

-- a level is its set and its two bays, and no more
abbrev pub in_parts : {S : Type 0} {m : _} → Result (Level S m) (S × Refusal) → Levelled S
in_parts (Ok x) = Ok (x.below, x.first, x.last)
in_parts (Err e) = Err e

-- which refusal comes for which reason, with the very set; and else the level is over that set and stands for its bays a to b
abbrev pub LevellingIs : {S : Type 0} {m : _} → (S → List Bool) → S → ℕ → ℕ → Result (Level S m) (S × Refusal) → Type 0
LevellingIs meant below a b (Ok x) =
    (1 ≤ a) × (a ≤ b) × (b ≤ length (meant below)) × (x.below ≡ below)
    × LevelIs a b (meant below) (level_in x.first x.last (meant x.below))
LevellingIs meant below a b (Err e) =
    (e.0 ≡ below)
    × (RefusedBy 7 e.1 ((a ≡ 0) ⊎ (b < a)) ⊎ RefusedBy 9 e.1 ((1 ≤ a) × (a ≤ b) × (length (meant below) < b)))
