-- What is left to show of `write`.
use Rattle.std.proofs.Common.{◌+◌, ◌-◌, sym, ap, ◌∙◌, arith}
use Rattle.sets.specs.Lists.{over}
use Rattle.bits.specs.Rows.{first_bits}
use Rattle.bits.proofs.Rows.{row_put, row_kept, row_none, row_all}
use Rattle.bits.proofs.writing.write.Goals as goal
use Rattle.bits.proofs.writing.write.Goals.{then-row, else-row}

pub loop-i-init : goal.loop-i-init
loop-i-init g c f agree = c.clear.ensures ∙ ap (λ front. over front c.args.bytes.now) (row_none c.args.n f)

pub loop-i-preserved : goal.loop-i-preserved
loop-i-preserved g c f agree =
    let i = c.loop-i.i in
    let n = c.args.n in
    let old = c.args.bytes.now in
    let before = c.loop-i.invariant f agree in
    let told = agree i c.row.result (omega arith) (omega arith) c.row.ensures in
    elim c.if-row.branch [
      | then-row w ↦
          row_put n (i - 1) i (i + 1 - 1) f old _ (omega arith) (omega arith) (sym told ∙ w.if-row.true)
          (w.bytes-is ∙ w.put.ensures.bits n (first_bits (i - 1) f) old (omega arith) before c.requires.room)
      | else-row w ↦ row_kept n (i - 1) i (i + 1 - 1) f old _ (omega arith) (omega arith) (sym told ∙ w.if-row.false) (w.bytes-is ∙ before)
    ]

pub returns : goal.returns
returns g c f agree = c.loop-i.invariant f agree ∙ ap (λ front. over front c.args.bytes.now) (row_all c.args.n (c.loop-i.i - 1) f (omega arith))
