-- What is left to show of `PioneerWalking::last`.
use Rattle.std.proofs.Common.{sym}
use Rattle.sets.specs.Made.{made_length}
use Rattle.pioneer.proofs.asks.PioneerWalking.last.Goals as goal

pub returns : goal.returns
returns c = sym (made_length _ _)
