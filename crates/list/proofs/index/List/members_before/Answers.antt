-- What is left to show of `List::members_before`.
use Rattle.std.proofs.Common.{◌+◌, ◌-◌, ltb, get_or, length, sym, arith, rules}
use Rattle.std.proofs.lemmas.Bool.{ltb-true, ltb-false, lt-ltb}
use Rattle.list.specs.Parting.{ComeFirst, PartedAt}
use Rattle.list.proofs.Places.{Between, between, between_not, between_count, few, place_under, spread}
use Rattle.list.proofs.index.List.members_before.Goals as goal

pub parting-requires-clause-small : goal.parting-requires-clause-small
parting-requires-clause-small c = let self = c.args.self.now in omega (arith, few _ _ self.inside self.climbs, self.sized.1)

pub parting-requires-clause-callable : goal.parting-requires-clause-callable
parting-requires-clause-callable c =
    let self = c.args.self.now in
    let small = few _ _ self.inside self.climbs in
    λ p h. let under = place_under _ _ self.inside self.climbs p h in search rules

-- where the numbers end that have fewer of the others before them
parted : (c : goal.After-parting)
    → PartedAt (λ j. ltb (get_or c.args.self.now.numbers.now j 0 - (j + 1)) c.args.n) 0 (length c.args.self.now.numbers.now) c.parting.result
parted c =
    let self = c.args.self.now in
    let ns = self.numbers.now in
    let n = c.args.n in
    let come : ComeFirst (λ j. ltb (get_or ns j 0 - (j + 1)) n) 0 (length ns) =
    λ a b h e. lt-ltb _ _ (omega (arith, ltb-true _ _ e, spread ns self.climbs a b (omega (arith, h.1)) h.2)) in
    c.parting.ensures (λ j. ltb (get_or ns j 0 - (j + 1)) n) (λ p b l post. search rules) come

-- there the n-th of the others stands
here : (c : goal.After-parting) → Between c.args.self.now.numbers.now (c.args.n + c.parting.result) c.parting.result
here c =
    let self = c.args.self.now in
    let ns = self.numbers.now in
    let r = c.parting.result in
    let at = parted c in
    between ns self.climbs _ r at.1
    (λ some. omega (arith, ltb-true _ _ (at.2 (r - 1) (omega arith) (omega arith))))
    (λ more. omega (arith, ltb-false _ _ (at.3 r (omega arith) more), place_under _ _ self.inside self.climbs r more))

pub overflow_cast-result : goal.overflow_cast-result
overflow_cast-result c =
    let self = c.args.self.now in
    omega (arith, few _ _ self.inside self.climbs, self.sized.1, (parted c).1)

pub returns-clause-value : goal.returns-clause-value
returns-clause-value c =
    let self = c.args.self.now in
    sym (between_count _ _ self.inside self.climbs _ _ (here c))

pub returns-clause-other : goal.returns-clause-other
returns-clause-other c = between_not _ _ _ (here c)

pub returns-clause-bound : goal.returns-clause-bound
returns-clause-bound c = (parted c).1
