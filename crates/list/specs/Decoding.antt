-- The set that a list index stands for.
use Rattle.std.specs.Prelude.{◌≡◌, ℕ, ◌≤◌, Bool, true, false, ◌||◌, List, [], ◌∷◌, length, ◌==◌}
use Rattle.sets.specs.Lists.{Among}
use Rattle.sets.specs.Made.{set_by}
use Rattle.sets.specs.Sets.{is_member}

-- whether the number is in the list
unfoldable pub is_among : List ℕ → ℕ → Bool
is_among [] i = false
is_among (n ∷ ns) i = i == n || is_among ns i

-- the bays 1 to u, of which bay i is a member exactly if it is in the list
abbrev pub set_of : ℕ → List ℕ → List Bool
set_of u ns = set_by u (is_among ns)

-- the law of the set: u is its last bay, and bay i is a member exactly if it is in the list
abbrev pub Decodes : ℕ → List ℕ → List Bool → Type 0
Decodes u ns s =
    (length s ≡ u) × ((i : ℕ) → 1 ≤ i → i ≤ u → (is_member s i ≡ true → Among ns i) × (Among ns i → is_member s i ≡ true))
