-- What the loop of `write_mixed` keeps.
use Rattle.std.proofs.Common.{◌≡◌}
use Rattle.sets.specs.Lists.{over}
use Rattle.sets.specs.Packing.{pack}
use Rattle.zombit.specs.Blocks.{bits_before}
use Rattle.zombit.specs.Filling.{uniform_bit, mixed_length, mixed_bit}
use Rattle.bits.specs.Rows.{first_bits}
use Rattle.zombit.specs.Looking.{set_in}
use Rattle.zombit.proofs.write.write_mixed.Given as goal

abbrev pub invariant-loop-k : goal.invariant-loop-k
invariant-loop-k l =
    let β = l.blocks.size in
    let s = set_in l.blocks.last l.row in
    (l.start ≡ bits_before β (uniform_bit β s) l.k) × (l.mixed ≡ over (pack (mixed_length β s) (first_bits l.start (mixed_bit β s))) l.fn.mixed)
