-- What is left to show of `ListWalking::last`.
use Rattle.std.proofs.Common.{sym}
use Rattle.sets.specs.Made.{made_length}
use Rattle.list.proofs.asks.ListWalking.last.Goals as goal

pub returns : goal.returns
returns c = sym (made_length _ _)
