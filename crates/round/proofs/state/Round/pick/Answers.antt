-- What is left to show of `Round::pick`.
use Rattle.std.proofs.Common.{arith}
use Rattle.round.specs.Rounds.{free_of, last_bay}
use Rattle.round.proofs.Asking.{picked_from, picked_is}
use Rattle.round.proofs.state.Round.pick.Goals as goal

pub returns-clause-answer : goal.returns-clause-answer
returns-clause-answer g c =
    let r = c.args.self.now in
    grind (arith, picked_from (free_of r) (last_bay r) c.args.k (omega arith) (omega arith))

pub returns-clause-law : goal.returns-clause-law
returns-clause-law g c =
    let r = c.args.self.now in
    grind (arith, picked_is (free_of r) (last_bay r) c.args.k (omega arith) (omega arith))
