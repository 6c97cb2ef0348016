-- What is left to show of `Pioneer::held`.
use Rattle.std.proofs.Common.{◌+◌, sym, ◌∙◌, arith, rules}
use Rattle.pioneer.specs.Found.{starts_of, sums_of}
use Rattle.pioneer.proofs.Finding.{held_of}
use Rattle.pioneer.proofs.Sides.{pioneer, run_before}
use Rattle.pioneer.proofs.index.Pioneer.held.Goals as goal

pub returns-then-get : goal.returns-then-get
returns-then-get c =
    let p = c.args.self.now in
    let i = c.args.i in
    let next = pioneer p.last p.count (starts_of p) (sums_of p) p.lawful (i + 1) (omega arith) (omega arith) (sym c.get.ensures ∙ c.if-get.true) in
    run_before p.last p.count (starts_of p) (sums_of p) p.lawful i _ next.0 (omega (arith, next.1))

pub returns : goal.returns
returns c = held_of c.args.self.now _ _ _ c.requires c.begun.ensures (λ x b h. search rules) c.filter.ensures
