-- What is left to show of `write_run`.
use Rattle.std.proofs.Common.{◌≡◌, refl, subst, arith}
use Rattle.strides.proofs.Numbering.{Rising, numbered_none, rising_more, rising_all}
use Rattle.strides.proofs.numbers.write_run.Goals as goal

pub loop-k-init : goal.loop-k-init
loop-k-init c = record { size = refl; wrote = numbered_none _ _; kept = refl }

pub loop-k-preserved : goal.loop-k-preserved
loop-k-preserved c = rising_more _ _ _ _ (omega arith) c.loop-k.invariant

pub returns : goal.returns
returns c =
    let at : c.loop-k.k ≡ c.args.n = omega arith in
    rising_all _ _ _ _ c.requires.room (subst (λ k. Rising c.args.first c.args.out.now k c.loop-k.out) at c.loop-k.invariant)
