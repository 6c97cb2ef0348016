-- What is left to show of `Plain::empty`.
use Rattle.std.proofs.Common.{[], ◌∷◌, refl, arith}
use Rattle.sets.specs.Made.{set_by}
use Rattle.sets.specs.Search.{first_from}
use Rattle.bits.specs.Bits.{bit_at}
use Rattle.bits.proofs.Checked.{spare_law}
use Rattle.plain.proofs.index.Plain.empty.Goals as goal

pub invariant_of-result : goal.invariant_of-result
unfolding first_from bit_at
invariant_of-result c = record { sized = (omega arith, omega arith); whole = refl; clear = spare_law 1 (0 ∷ []) }

pub returns : goal.returns
unfolding set_by bit_at
returns c = record { last = refl; bits = refl; means = refl }
