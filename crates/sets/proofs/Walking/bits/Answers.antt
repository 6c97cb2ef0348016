-- What is left to show of `bits`.
use Rattle.std.proofs.Common.{◌+◌, ◌*◌, length, slice_set, ap, ◌∙◌, subst, arith, rules}
use Rattle.sets.specs.Packing.{pack, member_after}
use Rattle.sets.proofs.Packing.{Going, going_on, bay_at, packed_whole}
use Rattle.sets.proofs.Walking.bits.Goals as goal

pub loop-byte-preserved : goal.loop-byte-preserved
loop-byte-preserved g c =
    let s = g.Self.Walking.meant c.args.self.now in
    let k = c.loop-byte.byte-index in
    let inv = c.loop-byte.invariant in
    let byte = c.byte_of.ensures (λ j. member_after s c.args.before (8 * k + j)) (λ j b one most post. let bay = bay_at s c.args.before k j c.loop-byte.passed (g.met.Self.Walking.sized c.args.self.now) one inv.passed in search rules) in
    subst (λ p. Going s c.args.before (k + 1) p (length c.args.out.now) (slice_set c.loop-byte.out k c.byte_of.result)) (omega (arith, c.saturating_add-passed.ensures))
    (going_on s c.args.before k c.loop-byte.passed (length c.args.out.now) c.byte_of.result c.loop-byte.out (omega (arith, inv.long, c.loop-byte-test.true)) byte inv)

pub returns : goal.returns
returns g c =
    let inv = c.loop-byte.invariant in
    packed_whole _ c.loop-byte.out (λ j l. inv.wrote j (omega (arith, inv.long, c.loop-byte-test.false)))
    ∙ ap (λ n. pack (8 * n) (member_after (g.Self.Walking.meant c.args.self.now) c.args.before)) inv.long
