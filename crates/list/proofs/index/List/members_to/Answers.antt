-- What is left to show of `List::members_to`.
use Rattle.std.proofs.Common.{leb, leb-true, leb-false, get_or, length, sym, arith, rules}
use Rattle.std.proofs.lemmas.Bool.{le-leb}
use Rattle.list.specs.Parting.{ComeFirst, PartedAt}
use Rattle.list.specs.Places.{Cut}
use Rattle.list.proofs.Places.{grows, cut_count, few}
use Rattle.list.proofs.index.List.members_to.Goals as goal

pub parting-requires-clause-small : goal.parting-requires-clause-small
parting-requires-clause-small c = let self = c.args.self.now in omega (arith, few _ _ self.inside self.climbs, self.sized.1)

-- where the numbers end that are at most the bay
cut : (c : goal.After-parting) → Cut c.args.self.now.numbers.now c.args.i c.parting.result
cut c =
    let self = c.args.self.now in
    let ns = self.numbers.now in
    let i = c.args.i in
    let come : ComeFirst (λ j. leb (get_or ns j 0) i) 0 (length ns) =
    λ a b h e. le-leb _ _ (omega (arith, leb-true _ _ e, grows ns self.climbs a b (omega (arith, h.1)) h.2)) in
    let at : PartedAt (λ j. leb (get_or ns j 0) i) 0 (length ns) c.parting.result =
    c.parting.ensures (λ j. leb (get_or ns j 0) i) (λ n b l post. search rules) come in
    (at.1, λ j l. leb-true _ _ (at.2 j (omega arith) l), λ j l h. leb-false _ _ (at.3 j l h))

pub overflow_cast-result : goal.overflow_cast-result
overflow_cast-result c =
    let self = c.args.self.now in
    omega (arith, few _ _ self.inside self.climbs, self.sized.1, (cut c).0)

pub returns : goal.returns
returns c =
    let self = c.args.self.now in
    record { value = sym (cut_count _ _ self.inside self.climbs _ c.args.i (cut c)); bound = (cut c).0; cut = cut c }
