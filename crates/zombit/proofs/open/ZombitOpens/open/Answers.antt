-- What is left to show of `ZombitOpens::open`.
use Rattle.std.proofs.Common.{rules}
use Rattle.zombit.proofs.Demands.{lawful, accepted}
use Rattle.zombit.proofs.Decoded.{decodes}
use Rattle.zombit.proofs.open.ZombitOpens.open.Goals as goal

pub returns-in_err-check_all-clause-law : goal.returns-in_err-check_all-clause-law
returns-in_err-check_all-clause-law c = lawful _ _ _ _ _ _ (search rules)

pub returns-in_err-check_all-clause-means : goal.returns-in_err-check_all-clause-means
returns-in_err-check_all-clause-means c = decodes _ _ _ _ _

pub invariant_of-self-2 : goal.invariant_of-self-2
invariant_of-self-2 c = accepted _ _ _ _ _ (lawful _ _ _ _ _ _ c.in_ok-check_all.ensures)

pub returns-clause-means : goal.returns-clause-means
returns-clause-means c = decodes _ _ _ _ _
