-- What is left to show of `count_mixed`.
use Rattle.std.proofs.Common.{not, ◌&&◌, sym, ◌∙◌, arith}
use Rattle.sets.proofs.Tests.{count_none}
use Rattle.zombit.specs.Filling.{uniform_bit}
use Rattle.zombit.specs.Looking.{set_in}
use Rattle.zombit.proofs.Looked.{mixed_more, mixed_none}
use Rattle.zombit.proofs.measuring.count_mixed.Goals as goal
use Rattle.zombit.proofs.measuring.count_mixed.Goals.{then-is_mixed, else-is_mixed}

pub loop-k-init : goal.loop-k-init
loop-k-init c = (sym (count_none (λ j. not (uniform_bit c.args.blocks.size (set_in c.args.blocks.last c.args.row.now) j))), omega arith)

pub loop-k-preserved : goal.loop-k-preserved
loop-k-preserved c =
    let β = c.args.blocks.size in
    let s = set_in c.args.blocks.last c.args.row.now in
    let here = c.is_mixed.ensures ∙ (λ i. c.look.ensures.one i && c.look.ensures.zero i) in
    elim c.if-is_mixed.branch [
      | then-is_mixed w ↦
          (mixed_more β s c.loop-k.k _ _ c.loop-k.invariant.0 (sym here ∙ w.if-is_mixed.true) w.mixed-is, omega (arith, c.loop-k.invariant.1, w.mixed-is))
      | else-is_mixed w ↦
          (w.mixed-is ∙ mixed_none β s c.loop-k.k _ c.loop-k.invariant.0 (sym here ∙ w.if-is_mixed.false), omega (arith, c.loop-k.invariant.1, w.mixed-is))
    ]
