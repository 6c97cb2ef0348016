-- What is left to show of `Zombit::pass`.
use Rattle.std.proofs.Common.{ℕ, ◌*◌, ap, suc-mul, add-one, arith}
use Rattle.sets.specs.Search.{count_to}
use Rattle.zombit.specs.Meant.{sorted}
use Rattle.zombit.proofs.Onward.{shared}
use Rattle.zombit.proofs.index.Zombit.pass.Goals as goal

pub returns-then-n-share-clause-reached : goal.returns-then-n-share-clause-reached
returns-then-n-share-clause-reached c within =
    let z = c.args.self.now in
    let counted = shared z c.args.sort _ _ _ c.behind-behind.ensures.is.members c.share.ensures in
    omega (arith, counted, c.if-n-share.true, ap (λ (k : ℕ). count_to (sorted z c.args.sort) (k * z.blocks.size)) c.behind-behind.ensures.block)

pub loop-preserved : goal.loop-preserved
loop-preserved c =
    let z = c.args.self.now in
    let counted = shared z c.args.sort _ _ _ c.behind-behind.ensures.is.members c.share.ensures in
    let more = ap (λ (x : ℕ). x * c.args.step) (add-one c.loop.counter) in (
      c.behind-behind.ensures.is,
      omega (arith, counted, c.if-n-share.false),
      omega (arith, more, suc-mul c.loop.counter c.args.step, c.behind-behind.ensures.block, c.loop.invariant.2),
    )
