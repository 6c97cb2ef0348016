-- What is left to show of `latest`.
use Rattle.std.proofs.Common.{refl, sym, subst}
use Rattle.chains.specs.Sources.{Latest}
use Rattle.chains.specs.declared.source.Source.TheVariants.{Filled}
use Rattle.chains.proofs.reopening.latest.Goals as goal

pub returns-in-Some-clause-which : goal.returns-in-Some-clause-which
returns-in-Some-clause-which g c =
    subst (λ last. Latest last c.args.set c.args.bytes.now c.args.numbers.now (Filled c.open_at.result)) (sym c.in-Some.is)
    (c.open_at.result, refl, c.open_at.ensures.holds)
