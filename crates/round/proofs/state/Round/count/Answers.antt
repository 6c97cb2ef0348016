-- What is left to show of `Round::count`.
use Rattle.std.proofs.Common.{arith}
use Rattle.sets.proofs.Only.{rank_mono}
use Rattle.round.proofs.Asking.{members_parts, counted_ok, members_listed}
use Rattle.round.proofs.state.Round.count.Goals as goal

pub overflow_sub-result : goal.overflow_sub-result
overflow_sub-result g c = grind (arith, rank_mono)

pub returns-clause-answer : goal.returns-clause-answer
returns-clause-answer g c = grind (arith, members_parts, counted_ok)

pub returns-clause-law : goal.returns-clause-law
returns-clause-law g c = grind (arith, members_parts, members_listed)
