-- What is left to show of `put`.
use Rattle.std.proofs.Common.{◌-◌, ◌*◌, ◌/◌, ◌%◌, ◌^◌, slice_index_or, slice_set, bit_or, ap, ◌∙◌, arith}
use Rattle.std.proofs.lemmas.Nat.{one_shl}
use Rattle.sets.specs.Lists.{over}
use Rattle.sets.specs.Packing.{pack}
use Rattle.bits.proofs.Fronts.{over_put}
use Rattle.bits.proofs.writing.put.Goals as goal

pub returns-clause-bits : goal.returns-clause-bits
returns-clause-bits c n f old last e room =
    let i = c.args.i in
    ap (λ bytes. slice_set bytes ((i - 1) / 8) (bit_or (slice_index_or bytes ((i - 1) / 8) 0) (1 * 2 ^ ((i - 1) % 8) % 256))) e
    ∙ ap (λ x. slice_set (over (pack n f) old) ((i - 1) / 8) (bit_or (slice_index_or (over (pack n f) old) ((i - 1) / 8) 0) x)) (one_shl ((i - 1) % 8) 8 (omega arith))
    ∙ over_put n f i c.requires.first last old
