-- What is left to show of `get`.
use Rattle.std.proofs.Common.{refl}
use Rattle.bits.specs.Bits.{bit_at}
use Rattle.bits.proofs.words.get.Goals as goal

pub returns : goal.returns
unfolding bit_at
returns c = refl
