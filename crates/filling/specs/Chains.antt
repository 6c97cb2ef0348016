-- Chains of fills: a set that was filled and opened again, any number of times.
use Rattle.std.specs.Prelude.{◌≡◌, ℕ, Bool, List, [], ◌∷◌, Ok}
use Rattle.filling.specs.Layouts.{Layout, lengths}
use Rattle.filling.specs.Rooms.{filling, wrote_all, fronts}

-- one step, from the set s to the set t that is opened: s is measured, its parts are filled into memories, and what is opened is the
-- fronts of these memories, at the lengths and with the numbers that the slip told. Nothing here says that the two sets are equal.
pub record Step (x : Layout) (s t : List Bool) : Type 0 where
  pub measured : x.measuring ≡ Ok tt
  pub before : List (List ℕ)
  pub filled : filling x.form (x.parts s) before ≡ Ok tt
  pub after : List (List ℕ)
  pub wrote : after ≡ wrote_all (filling x.form (x.parts s) before) (x.parts s) before
  pub opened : x.opening (x.numbers s) (fronts (lengths x s) after) ≡ Ok tt
  pub meant : t ≡ x.decoding (x.numbers s) (fronts (lengths x s) after)

-- t is what is opened at the end, where s was filled and opened in these forms and block sizes, in this order, each time from what was
-- opened before
abbrev pub Chain : List Layout → List Bool → List Bool → Type 0
Chain [] s t = t ≡ s
Chain (x ∷ xs) s t = (u : List Bool) × (Step x s u × Chain xs u t)
