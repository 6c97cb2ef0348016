-- The bays at which the sixteen signs stand.
use Rattle.std.specs.Prelude.{ℕ, List, [], ◌∷◌}

abbrev pub posts : List ℕ
posts = 1 ∷ 24 ∷ 49 ∷ 61 ∷ 97 ∷ 122 ∷ 148 ∷ 160 ∷ 203 ∷ 231 ∷ 256 ∷ 277 ∷ 310 ∷ 344 ∷ 371 ∷ 402 ∷ []
