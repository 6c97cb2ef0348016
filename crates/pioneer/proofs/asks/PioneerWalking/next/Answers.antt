-- What is left to show of `PioneerWalking::next`.
use Rattle.std.proofs.Common.{◌≡◌, not, None, ap, ◌∙◌, arith, rules}
use Rattle.sets.specs.declared.Sort.TheVariants.{Members, Others}
use Rattle.sets.proofs.Tests.{first_by}
use Rattle.pioneer.specs.Found.{member_of}
use Rattle.pioneer.proofs.Answered.{next_by}
use Rattle.pioneer.proofs.Asked.{first_here, next_pioneer, next_behind}
use Rattle.pioneer.proofs.asks.PioneerWalking.next.Goals as goal

pub returns-then-from-self : goal.returns-then-from-self
returns-then-from-self c =
    next_by c.args.self.now c.args.sort c.args.i _ None c.max-from.ensures (first_by _ _ _ None (λ j a b. absurd (omega arith)))

pub returns-then-begins : goal.returns-then-begins
returns-then-begins c =
    let p = c.args.self.now in
    let sort : c.args.sort ≡ Members = search rules in
    rw sort (next_by p Members _ _ _ c.max-from.ensures (first_here (member_of p) _ p.last c.if-from-self.false (c.begins.ensures c.if-begins.true).1))

pub returns-in-Members-None : goal.returns-in-Members-None
returns-in-Members-None c =
    let p = c.args.self.now in
    rw c.in-Members-None.is-0 (next_by p Members _ _ _ c.max-from.ensures
    (c.next.ensures ∙ next_pioneer _ _ _ _ p.lawful _ (omega (arith, c.max-from.ensures)) c.in-Members-None.ensures))

pub returns-in-Others-Some : goal.returns-in-Others-Some
returns-in-Others-Some c =
    let p = c.args.self.now in
    let held = c.in-Others-Some.ensures in
    rw c.in-Others-Some.is-0 (next_by p Others _ _ _ c.max-from.ensures
    (c.then_some.ensures ∙ next_behind _ _ _ _ p.lawful _ c.if-from-self.false held.0 _ (omega (arith, held.1.0, held.1.2))))

pub returns-in-Members-Some : goal.returns-in-Members-Some
returns-in-Members-Some c =
    let p = c.args.self.now in
    rw c.in-Members-Some.is-0 (next_by p Members _ _ _ c.max-from.ensures (first_here (member_of p) _ p.last c.if-from-self.false c.in-Members-Some.ensures.0))

pub returns-in-Members-Some-2 : goal.returns-in-Members-Some-2
returns-in-Members-Some-2 c =
    let p = c.args.self.now in
    rw c.in-Members-Some.is-0 (next_by p Others _ _ _ c.max-from.ensures (first_here (λ j. not (member_of p j)) _ p.last c.if-from-self.false (ap not c.in-Members-Some.ensures)))
