-- A set made from its last bay and a test of its members.
use Rattle.std.specs.Prelude.{◌≡◌, ℕ, suc, ◌≤◌, Bool, List, map, length}
use Rattle.std.proofs.Common.{arith}
use Rattle.std.specs.List.{range_with_len}
use Rattle.std.proofs.lemmas.List.FromFn.{length-map-range_with_len}
use Rattle.sets.specs.declared.Sort.{Sort}
use Rattle.sets.specs.Sets.{fits, is_member, LastBay, Sized}

-- the bays 1 to u, of which bay i is a member exactly if it passes
unfoldable pub set_by : ℕ → (ℕ → Bool) → List Bool
set_by u f = map (λ j. f (suc j)) (range_with_len 0 u)

pub made_length : (u : ℕ) (f : ℕ → Bool) → length (set_by u f) ≡ u
unfolding set_by
made_length u f = length-map-range_with_len (λ j. f (suc j)) 0 u

pub made_sized : (u : ℕ) (f : ℕ → Bool) → LastBay u → Sized (set_by u f)
made_sized u f h = let e = made_length u f in (omega (arith, h.0), omega (arith, h.1))

-- the law of such a set: u is its last bay, and bay i is a member exactly if it passes
abbrev pub MadeBy : ℕ → (ℕ → Bool) → List Bool → Type 0
MadeBy u f s = (length s ≡ u) × ((i : ℕ) → 1 ≤ i → i ≤ u → is_member s i ≡ f i)

-- the numbers of a sort: those that pass, or those that do not
abbrev pub of_sort : Sort → (ℕ → Bool) → ℕ → Bool
of_sort k f i = fits k (f i)
