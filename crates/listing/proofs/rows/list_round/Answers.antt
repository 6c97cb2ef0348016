-- What is left to show of `list_round`.
use Rattle.std.proofs.Common.{rules}
use Rattle.listing.proofs.Completing.{complete_in}
use Rattle.listing.proofs.rows.list_round.Goals as goal

pub returns-clause-all : goal.returns-clause-all
returns-clause-all g c = complete_in _ _ _ _ c.args.rows.now _ (search rules) (search rules)
