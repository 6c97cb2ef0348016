-- What is left to show of `fills_keep`.
use Rattle.bits.proofs.Packing.{packs}
use Rattle.sets.specs.Sets.{is_member}
use Rattle.std.proofs.Common.{length}
use Rattle.plain.proofs.Opened.{opened, stands}
use Rattle.plain.proofs.fills_keep.Goals as goal

pub returns-clause-keeps : goal.returns-clause-keeps
returns-clause-keeps c = λ taken s h. (opened s h, stands s)

pub returns-clause-tells : goal.returns-clause-tells
returns-clause-tells c = λ s. packs (length s) (is_member s)
