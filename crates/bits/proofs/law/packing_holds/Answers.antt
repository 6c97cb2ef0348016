-- What is left to show of `packing_holds`.
use Rattle.bits.proofs.Packing.{packs, packs_only}
use Rattle.bits.proofs.law.packing_holds.Goals as goal

pub returns-clause-packs : goal.returns-clause-packs
returns-clause-packs c = packs

pub returns-clause-decides : goal.returns-clause-decides
returns-clause-decides c = packs_only
