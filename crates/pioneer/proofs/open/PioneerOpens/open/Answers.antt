-- What is left to show of `PioneerOpens::open`.
use Rattle.pioneer.proofs.Telling.{decodes}
use Rattle.pioneer.proofs.open.PioneerOpens.open.Goals as goal

pub returns-in_err-check_all-clause-means : goal.returns-in_err-check_all-clause-means
returns-in_err-check_all-clause-means c = decodes _ _ _ _

pub returns-clause-means : goal.returns-clause-means
returns-clause-means c = decodes _ _ _ _
