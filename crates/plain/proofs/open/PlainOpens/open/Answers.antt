-- What is left to show of `PlainOpens::open`.
use Rattle.sets.proofs.Made.{made_by}
use Rattle.plain.proofs.open.PlainOpens.open.Goals as goal

pub returns-in_err-at-clause-means : goal.returns-in_err-at-clause-means
returns-in_err-at-clause-means c = made_by _ _

pub returns-in_err-at-2-clause-means : goal.returns-in_err-at-2-clause-means
returns-in_err-at-2-clause-means c = made_by _ _

pub returns-clause-means : goal.returns-clause-means
returns-clause-means c = made_by _ _
