-- What is left to show of `Round::nearest`.
use Rattle.std.proofs.Common.{arith}
use Rattle.round.specs.Rounds.{free_of, last_bay}
use Rattle.round.proofs.Asking.{nearest_is}
use Rattle.round.proofs.state.Round.nearest.Goals as goal

pub returns-clause-law : goal.returns-clause-law
returns-clause-law g c = grind (arith, nearest_is (free_of c.args.self.now) (last_bay c.args.self.now) c.args.p)
