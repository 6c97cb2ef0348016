-- What is left to show of `fills_keep`.
use Rattle.list.proofs.Listed.{lists_members}
use Rattle.list.proofs.Opened.{opened, stands}
use Rattle.list.proofs.fills_keep.Goals as goal

pub returns-clause-keeps : goal.returns-clause-keeps
returns-clause-keeps c = λ taken s h. (opened s h, stands s)

pub returns-clause-tells : goal.returns-clause-tells
returns-clause-tells c = lists_members
