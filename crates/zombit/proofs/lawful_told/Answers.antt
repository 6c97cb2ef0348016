-- What is left to show of `lawful_told`.
use Rattle.zombit.proofs.Lawful.{lawful_told}
use Rattle.zombit.proofs.lawful_told.Goals as goal

pub returns : goal.returns
returns c = lawful_told
