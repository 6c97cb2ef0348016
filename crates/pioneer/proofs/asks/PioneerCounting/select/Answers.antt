-- What is left to show of `PioneerCounting::select`.
use Rattle.std.proofs.Common.{◌∙◌}
use Rattle.sets.specs.declared.Sort.TheVariants.{Members, Others}
use Rattle.sets.proofs.Made.{made_select}
use Rattle.pioneer.specs.Found.{member_of}
use Rattle.pioneer.proofs.asks.PioneerCounting.select.Goals as goal

pub returns-in-Members : goal.returns-in-Members
returns-in-Members c = let p = c.args.self.now in rw c.in-Members.is (c.member.ensures ∙ made_select p.last (member_of p) Members c.args.n)

pub returns-in-Others : goal.returns-in-Others
returns-in-Others c = let p = c.args.self.now in rw c.in-Others.is (c.other.ensures ∙ made_select p.last (member_of p) Others c.args.n)
