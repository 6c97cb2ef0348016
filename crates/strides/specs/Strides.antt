-- Two rows of bits, f and c, walked through from the first bit on.
use Rattle.std.specs.Prelude.{ℕ, zero, suc, ◌+◌, Bool, false, cond, not, ◌&&◌, ◌||◌, List, [], ◌∷◌, ◌++◌}
use Rattle.bits.specs.Words.{digit}
use Rattle.strides.specs.declared.standing.Stance.{Stance}

-- a number as a row, its lowest digit the first bit
abbrev pub row_of : ℕ → ℕ → Bool
row_of x zero = false
row_of x (suc s) = digit x s

-- the numbers of the ones among the first n bits of a row, of which the first bit has the number `first`
unfoldable pub numbered : (ℕ → Bool) → ℕ → ℕ → List ℕ
numbered g first zero = []
numbered g first (suc n) = numbered g first n ++ cond (g (suc n)) ((first + n) ∷ []) []

module _ (f c : ℕ → Bool) where
  abbrev pub both : ℕ → Bool
  both i = f i && c i

  -- whether the last of the first n bits that is in either row is in f alone; `was` says so where none is
  unfoldable pub last_alone : Bool → ℕ → Bool
  last_alone was zero = was
  last_alone was (suc n) = not (c (suc n)) && (f (suc n) || last_alone was n)

  -- whether the n-th bit is in both
  abbrev pub is_fresh : Bool → ℕ → Bool
  is_fresh was zero = was
  is_fresh was (suc n) = both (suc n)

module _ (f c : ℕ → Bool) (s : Stance) where
  -- the stance behind the first n bits
  unfoldable pub after : ℕ → Stance
  after n = record { fresh = is_fresh f c s.fresh n; in_free = last_alone f c s.in_free n; in_class = last_alone c f s.in_class n }

  -- whether a stretch begins at a bit: the one before it is in both rows, or it is itself, or it is in one row and the last one
  -- before it in the other
  unfoldable pub begins : ℕ → Bool
  begins zero = false
  begins (suc n) =
      is_fresh f c s.fresh n || (both f c (suc n) || ((f (suc n) && last_alone c f s.in_class n) || (c (suc n) && last_alone f c s.in_free n)))
