-- Lists of numbers, as the numbers that have a property; and what is written to the front of a memory.
use Rattle.std.specs.Prelude.{◌≡◌, ℕ, suc, ◌≤◌, ◌⊎◌, List, [], ◌∷◌, ◌++◌, length, drop}

-- one of the list has the property
abbrev pub Any : {A : Type 0} → (A → Type 0) → List A → Type 0
Any P [] = ⊥
Any P (x ∷ xs) = P x ⊎ Any P xs

-- each of the list has the property
abbrev pub Each : {A : Type 0} → (A → Type 0) → List A → Type 0
Each P [] = Unit {0}
Each P (x ∷ xs) = P x × Each P xs

-- the number is in the list
abbrev pub Among : List ℕ → ℕ → Type 0
Among xs j = Any (λ x. j ≡ x) xs

-- each number is above those before it, and the first is p or above
abbrev pub Rising : ℕ → List ℕ → Type 0
Rising p [] = Unit {0}
Rising p (x ∷ xs) = (p ≤ x) × Rising (suc x) xs

-- the list has exactly the numbers with the property, each once, rising
pub record ListOf (P : ℕ → Type 0) (xs : List ℕ) : Type 0 where
  pub rising : Rising 0 xs
  pub all : (j : ℕ) → P j → Among xs j
  pub only : (j : ℕ) → Among xs j → P j

-- what is written stands at the front of the memory, and what lies behind is kept
abbrev pub over : {A : Type 0} → List A → List A → List A
over front memory = front ++ drop (length front) memory
