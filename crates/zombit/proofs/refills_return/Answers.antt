-- What is left to show of `refills_return`.
use Rattle.zombit.proofs.Returned.{refills_return}
use Rattle.zombit.proofs.refills_return.Goals as goal

pub returns : goal.returns
returns c = refills_return
