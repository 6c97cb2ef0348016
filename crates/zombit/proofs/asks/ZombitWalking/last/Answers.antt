-- What is left to show of `ZombitWalking::last`.
use Rattle.std.proofs.Common.{sym}
use Rattle.sets.specs.Made.{made_length}
use Rattle.zombit.specs.Meant.{bays}
use Rattle.zombit.proofs.asks.ZombitWalking.last.Goals as goal

pub returns : goal.returns
returns c = let z = c.args.self.now in sym (made_length z.blocks.last (bays z))
