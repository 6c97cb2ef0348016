-- Joined lists: one of them, each of them.
use Rattle.std.proofs.Common.{◌⊎◌, List, [], ◌∷◌, ◌++◌, inl, inr, ⊎_elim}
use Rattle.sets.specs.Lists.{Any, Each}

module _ {A : Type 0} (P : A → Type 0) where
  pub any_split : (xs ys : List A) → Any P (xs ++ ys) → Any P xs ⊎ Any P ys
  any_split [] ys h = inr h
  any_split (x ∷ xs) ys (inl h) = inl (inl h)
  any_split (x ∷ xs) ys (inr h) = ⊎_elim (λ l. inl (inr l)) (λ r. inr r) (any_split xs ys h)

  pub any_left : (xs ys : List A) → Any P xs → Any P (xs ++ ys)
  any_left [] ys h = absurd h
  any_left (x ∷ xs) ys (inl h) = inl h
  any_left (x ∷ xs) ys (inr h) = inr (any_left xs ys h)

  pub any_right : (xs ys : List A) → Any P ys → Any P (xs ++ ys)
  any_right [] ys h = h
  any_right (x ∷ xs) ys h = inr (any_right xs ys h)

  pub each_join : (xs ys : List A) → Each P xs → Each P ys → Each P (xs ++ ys)
  each_join [] ys h k = k
  each_join (x ∷ xs) ys h k = (h.0, each_join xs ys h.1 k)
