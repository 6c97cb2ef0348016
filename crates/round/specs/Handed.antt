-- What a round hands out, in the words of the two sets.
use Rattle.std.specs.Prelude.{◌≡◌, ℕ, suc, ◌<◌, ◌≤◌, max, Bool, true, false, List, [], ◌∷◌, length, Some, None, Option}
use Rattle.sets.specs.Lists.{ListOf}
use Rattle.round.specs.Machine.{end, common}
use Rattle.round.specs.Stretches.{Between}

-- the first common bay from p on, and the place behind it; where there is none up to the end, none, and the place behind the end,
-- or p where that lies further on
abbrev pub HandedIs : List Bool → List Bool → ℕ → Option ℕ → ℕ → Type 0
HandedIs f c p None place = ((j : ℕ) → p ≤ j → j ≤ end f c → common f c j ≡ false) × (place ≡ max p (suc (end f c)))
HandedIs f c p (Some q) place =
    (p ≤ q) × (q ≤ end f c) × (common f c q ≡ true) × ((j : ℕ) → p ≤ j → j < q → common f c j ≡ false) × (place ≡ suc q)

-- the place behind the last of the bays, and p where there is none
abbrev pub behind : ℕ → List ℕ → ℕ
behind p [] = p
behind p (b ∷ bays) = behind (suc b) bays

-- at most k bays are taken; the place is behind the last of them where they are k, and else behind the end, or p where that lies
-- further on
pub record Stops (f c : List Bool) (p k : ℕ) (bays : List ℕ) (place : ℕ) : Type 0 where
  pub fits : length bays ≤ k
  pub full : length bays ≡ k → place ≡ behind p bays
  pub short : length bays < k → place ≡ max p (suc (end f c))

-- the first common bays from p on, as many as fit into k numbers: all that lie before the place
pub record SheetIs (f c : List Bool) (p k : ℕ) (bays : List ℕ) (place : ℕ) : Type 0 where
  pub listed : ListOf (λ j. Between p place j × (common f c j ≡ true)) bays
  pub stops : Stops f c p k bays place
