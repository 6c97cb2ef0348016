-- What is left to show of `fills_keep`.
use Rattle.pioneer.proofs.Filled.{opened, stands, parts_tell}
use Rattle.pioneer.proofs.fills_keep.Goals as goal

pub returns-clause-keeps : goal.returns-clause-keeps
returns-clause-keeps c = λ e s sized. (opened s sized, stands s)

pub returns-clause-tells : goal.returns-clause-tells
returns-clause-tells c = λ s. parts_tell s
