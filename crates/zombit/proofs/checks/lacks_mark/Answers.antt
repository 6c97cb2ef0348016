-- What is left to show of `lacks_mark`.
use Rattle.std.proofs.Common.{◌||◌}
use Rattle.bits.specs.Bits.{bit_at}
use Rattle.zombit.proofs.Seeing.{some_zero, either_held}
use Rattle.zombit.proofs.checks.lacks_mark.Goals as goal

pub returns : goal.returns
returns c =
    let U = bit_at c.args.uniform.now in
    let O = bit_at c.args.marked.now in
    some_zero (λ i. U i || O i) c.args.before c.args.n _ c.requires.few (either_held U O c.args.before 64 _ _ c.row.ensures c.row-2.ensures)
