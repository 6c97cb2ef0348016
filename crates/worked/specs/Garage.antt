-- The sets of the worked garage.
use Rattle.std.specs.Prelude.{ℕ, suc, Bool, false, ◌||◌, List, [], ◌∷◌, map, ◌==◌}
use Rattle.std.specs.List.{range_with_len}

abbrev is_among : ℕ → List ℕ → Bool
is_among i [] = false
is_among i (x ∷ xs) = i == x || is_among i xs

-- the bays 1 to u, of which those in the list are members
abbrev pub set_with : ℕ → List ℕ → List Bool
set_with u members = map (λ j. is_among (suc j) members) (range_with_len 0 u)

abbrev pub free : List Bool
free = set_with 16 (1 ∷ 2 ∷ 3 ∷ 8 ∷ 9 ∷ 10 ∷ 11 ∷ [])

abbrev pub charging : List Bool
charging = set_with 16 (2 ∷ 5 ∷ 9 ∷ 10 ∷ 14 ∷ [])

-- a small garage with a bay on either side of bay 6, at equal distance
abbrev pub sides : List Bool
sides = set_with 9 (4 ∷ 8 ∷ [])
