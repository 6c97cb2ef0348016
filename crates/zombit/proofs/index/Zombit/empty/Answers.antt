-- What is left to show of `Zombit::empty`.
use Rattle.std.proofs.Common.{[], ◌∷◌, Ok, refl}
use Rattle.sets.specs.Made.{set_by}
use Rattle.sets.specs.Search.{first_from, count_to}
use Rattle.bits.specs.Bits.{bit_at}
use Rattle.zombit.specs.Blocks.{bay_in}
use Rattle.zombit.specs.Opening.{OpeningIs}
use Rattle.zombit.proofs.Demands.{opening_law, accepted}
use Rattle.zombit.proofs.index.Zombit.empty.Goals as goal

-- it would be opened
opens : OpeningIs 1 2 (1 ∷ []) (0 ∷ []) [] (Ok tt)
unfolding first_from count_to bit_at
opens = opening_law 1 2 (1 ∷ []) (0 ∷ []) []

pub invariant_of-result-2 : goal.invariant_of-result-2
invariant_of-result-2 c = accepted 1 2 (1 ∷ []) (0 ∷ []) [] opens

pub returns-clause-means : goal.returns-clause-means
unfolding set_by bay_in bit_at
returns-clause-means c = refl
