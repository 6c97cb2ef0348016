-- What is left to show of `PlainWalking::last`.
use Rattle.std.proofs.Common.{sym}
use Rattle.sets.specs.Made.{made_length}
use Rattle.plain.proofs.asks.PlainWalking.last.Goals as goal

pub returns : goal.returns
returns c = sym (made_length _ _)
