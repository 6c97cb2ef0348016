-- What is left to show of `List::nth_other`.
use Rattle.std.proofs.Common.{◌∙◌, inl, inr, arith}
use Rattle.sets.specs.declared.Sort.TheVariants.{Others}
use Rattle.list.proofs.Places.{few}
use Rattle.list.proofs.Selected.{select_outside, select_other}
use Rattle.list.proofs.index.List.nth_other.Goals as goal
use Rattle.list.proofs.index.List.nth_other.Goals.{then-n-eq0-via-then-n-eq0, then-n-eq0-via-else-n-eq0+then-n-self}

pub returns-then-n-eq0 : goal.returns-then-n-eq0
returns-then-n-eq0 c =
    elim c.then-n-eq0.branch [
      | then-n-eq0-via-then-n-eq0 w ↦ select_outside _ _ Others _ (inl w.if-n-eq0.true)
      | then-n-eq0-via-else-n-eq0+then-n-self w ↦ select_outside _ _ Others _ (inr w.if-n-self.true)
    ]

pub overflow_add-bay : goal.overflow_add-bay
overflow_add-bay c =
    let self = c.args.self.now in
    omega (arith, c.members_before.ensures.bound, few _ _ self.inside self.climbs, c.if-n-self.false, self.sized.1)

pub returns : goal.returns
returns c =
    let found = c.members_before.ensures in
    c.then_some.ensures ∙ select_other _ _ _ _ (omega (arith, c.if-n-eq0.false)) found.value found.other
