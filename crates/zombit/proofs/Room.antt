-- How many bits the mixed blocks take.
use Rattle.std.proofs.Common.{◌≡◌, ℕ, suc, ◌+◌, ◌*◌, ◌<◌, ◌≤◌, Bool, true, false, not, ap, ◌∙◌, mul-le-mul_right, suc-mul, arith}
use Rattle.sets.proofs.Tests.{count_here, count_on, count_le, count_mono}
use Rattle.zombit.specs.Blocks.{blocks_of, mixed_before, bits_before}
use Rattle.zombit.proofs.Places.{blocks_reach}

module _ (β : ℕ) (U : ℕ → Bool) where
  pub mixed_few : (u : ℕ) → 1 ≤ β → bits_before β U (blocks_of u β) ≤ u + β
  mixed_few u b = omega (arith, mul-le-mul_right β (count_le (λ j. not (U j)) (blocks_of u β)), blocks_reach u β b)

  -- a uniform block takes no bits, a mixed one β
  pub bits_on : (k : ℕ) → U (suc k) ≡ true → bits_before β U (suc k) ≡ bits_before β U k
  bits_on k e = ap (λ (n : ℕ). n * β) (count_on (λ j. not (U j)) k (ap not e))

  pub bits_here : (k : ℕ) → U (suc k) ≡ false → bits_before β U (suc k) ≡ bits_before β U k + β
  bits_here k e = ap (λ (n : ℕ). n * β) (count_here (λ j. not (U j)) k (ap not e)) ∙ suc-mul (mixed_before U k) β

  -- those of a mixed block lie before those of later blocks
  pub mixed_room : (k n : ℕ) → k < n → U (suc k) ≡ false → bits_before β U k + β ≤ bits_before β U n
  mixed_room k n l e = omega (arith, bits_here k e, mul-le-mul_right β (count_mono (λ j. not (U j)) (suc k) n l))
