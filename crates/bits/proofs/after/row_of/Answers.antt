-- What is left to show of `row_of`.
use Rattle.std.proofs.Common.{◌-◌, sym, subst}
use Rattle.sets.specs.declared.Sort.{Sort}
use Rattle.bits.specs.Bits.{bit_at, is_bit}
use Rattle.bits.specs.Words.{Holds}
use Rattle.bits.proofs.Held.{others_held}
use Rattle.bits.proofs.after.row_of.Goals as goal

pub returns-in-Others : goal.returns-in-Others
returns-in-Others c =
    let bs = c.args.bytes.now in
    let w = c.row-w.result in
    subst (λ (b : Sort). Holds (is_bit bs b) c.args.before 64 (18446744073709551615 - w)) (sym c.in-Others.is) (others_held (bit_at bs) _ 64 w c.row-w.ensures)
