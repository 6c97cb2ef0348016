-- What is left to show of `ListOpens::open`.
use Rattle.std.proofs.Common.{rules}
use Rattle.list.specs.Lawful.{RisesWithin}
use Rattle.list.proofs.Lawful.{inside, climbs}
use Rattle.list.proofs.Members.{decodes}
use Rattle.list.proofs.open.ListOpens.open.Goals as goal

pub returns-in_err-at-clause-means : goal.returns-in_err-at-clause-means
returns-in_err-at-clause-means c = decodes _ _

pub returns-in_err-at-2-clause-means : goal.returns-in_err-at-2-clause-means
returns-in_err-at-2-clause-means c = decodes _ _

pub invariant_of-self : goal.invariant_of-self
invariant_of-self c =
    let h : RisesWithin c.args.source.last c.args.source.numbers.now = search rules in
    record { sized = search rules; inside = inside _ _ h; climbs = climbs 1 _ h.0 }

pub returns-clause-means : goal.returns-clause-means
returns-clause-means c = decodes _ _
