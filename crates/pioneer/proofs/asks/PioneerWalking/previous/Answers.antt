-- What is left to show of `PioneerWalking::previous`.
use Rattle.std.proofs.Common.{◌∙◌, arith, rules}
use Rattle.sets.specs.declared.Sort.TheVariants.{Members, Others}
use Rattle.pioneer.proofs.Answered.{previous_by, last_member, last_other}
use Rattle.pioneer.proofs.Finding.{found_low, held_found}
use Rattle.pioneer.proofs.asks.PioneerWalking.previous.Goals as goal

pub map-requires : goal.map-requires
map-requires c = grind (arith, found_low)

pub map_or-bay-requires : goal.map_or-bay-requires
map_or-bay-requires c = grind (arith, held_found)

pub returns-in-Members : goal.returns-in-Members
returns-in-Members c =
    rw c.in-Members.is (previous_by c.args.self.now Members _ _ _ c.min-to.ensures
    (last_member c.args.self.now _ _ _ (omega (arith, c.min-to.ensures)) c.begun.ensures (λ x q h. search rules) c.map.ensures.cases))

pub returns-in-Others : goal.returns-in-Others
returns-in-Others c =
    rw c.in-Others.is (previous_by c.args.self.now Others _ _ _ c.min-to.ensures
    (c.then_some.ensures ∙ last_other c.args.self.now _ _ _ (omega (arith, c.min-to.ensures)) c.held.ensures (λ x h. search rules) c.map_or-bay.ensures))
