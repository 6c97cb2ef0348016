-- What is left to show of `check_rising`.
use Rattle.std.proofs.Common.{refl, sym, arith}
use Rattle.list.specs.Lawful.{RisesWithin}
use Rattle.list.proofs.Lawful.{within, inside, climbs, steps_of, ends_of, taken_if, refused_if}
use Rattle.list.proofs.Places.{few}
use Rattle.list.proofs.check.check_rising.Goals as goal
use Rattle.list.proofs.check.check_rising.Goals.{else-numbers-last-via-then-numbers-last+then-ends_within+else-steps, else-numbers-last-via-then-numbers-last+else-ends_within, else-numbers-last-via-else-numbers-last}

lawful : (c : goal.Then-steps) → RisesWithin c.args.last c.args.numbers.now
lawful c = within c.args.last c.args.numbers.now (c.ends_within.ensures.yes c.if-ends_within.true) (c.steps.ensures.yes c.if-steps.true)

unlawful : (c : goal.Joined-else-numbers-last) → RisesWithin c.args.last c.args.numbers.now → ⊥
unlawful c h =
    let u = c.args.last in
    let ns = c.args.numbers.now in
    elim c.else-numbers-last.branch [
      | else-numbers-last-via-then-numbers-last+then-ends_within+else-steps w ↦ w.steps.ensures.no w.if-steps.false (steps_of u ns h)
      | else-numbers-last-via-then-numbers-last+else-ends_within w ↦ w.ends_within.ensures.no w.if-ends_within.false (ends_of u ns h)
      | else-numbers-last-via-else-numbers-last w ↦ omega (arith, w.if-numbers-last.false, few u ns (inside u ns h) (climbs 1 ns h.0))
    ]

pub returns-then-steps-clause-answer : goal.returns-then-steps-clause-answer
returns-then-steps-clause-answer c = sym (taken_if c.args.last c.args.numbers.now (lawful c))

pub returns-then-steps-clause-law : goal.returns-then-steps-clause-law
returns-then-steps-clause-law c = lawful c

pub returns-else-numbers-last-clause-answer : goal.returns-else-numbers-last-clause-answer
returns-else-numbers-last-clause-answer c = sym (refused_if c.args.last c.args.numbers.now (unlawful c))

pub returns-else-numbers-last-clause-law : goal.returns-else-numbers-last-clause-law
returns-else-numbers-last-clause-law c = (refl, unlawful c)
