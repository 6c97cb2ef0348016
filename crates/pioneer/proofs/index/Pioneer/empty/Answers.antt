-- What is left to show of `Pioneer::empty`.
use Rattle.std.proofs.Common.{◌≡◌, [], ◌∷◌, refl, arith}
use Rattle.sets.specs.Made.{set_by}
use Rattle.sets.specs.Search.{first_from, count_to}
use Rattle.bits.specs.Bits.{bit_at}
use Rattle.bits.proofs.Checked.{spare_law}
use Rattle.pioneer.specs.Runs.{in_run}
use Rattle.pioneer.proofs.Passing.{all_fit}
use Rattle.pioneer.proofs.index.Pioneer.empty.Goals as goal

no_run : count_to (bit_at (0 ∷ [])) 1 ≡ 0
unfolding count_to bit_at
no_run = refl

no_sum : count_to (bit_at []) 0 ≡ 0
unfolding count_to
no_sum = refl

pub invariant_of-result : goal.invariant_of-result
unfolding first_from bit_at
invariant_of-result c = record {
  sized = (omega arith, omega arith);
  most = omega arith;
  whole = (refl, refl);
  clear = (spare_law 1 (0 ∷ []), spare_law 0 []);
  lawful = all_fit 1 0 _ _ (omega (arith, no_run, no_sum)) (λ some. absurd (omega arith)) (λ r is. absurd (omega (arith, no_run, is.0, is.1)));
}

pub returns-clause-means : goal.returns-clause-means
unfolding set_by in_run count_to bit_at
returns-clause-means c = refl
