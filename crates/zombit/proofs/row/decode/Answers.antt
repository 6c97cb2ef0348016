-- What is left to show of `decode`.
use Rattle.std.proofs.Common.{ℕ, ◌*◌, length-take, sym, ap, ◌∙◌, arith}
use Rattle.sets.specs.Packing.{pack, member_after}
use Rattle.zombit.proofs.Looked.{wrote_set, wrote_clear}
use Rattle.zombit.proofs.Places.{blocks_cover, blocks_reach}
use Rattle.zombit.proofs.row.decode.Goals as goal

pub returns-clause-row : goal.returns-clause-row
returns-clause-row g c =
    let s = g.S.Walking.meant c.args.set.now in
    let b = c.args.blocks in
    let wrote = c.bits.ensures ∙ ap (λ (n : ℕ). pack (8 * n) (member_after s 0)) (sym c.bits.auto.out) in
    let places = ap (λ (n : ℕ). n * b.size) c.count.ensures in
    let reach = blocks_reach b.last b.size (omega (arith, b.blocked.0)) in
    let taken = length-take c.div_ceil.result c.args.memory.now in (
      omega (arith, places, reach, taken, c.bits.auto.out, c.div_ceil.ensures, b.sized.1, b.blocked.1),
      omega (arith, taken, c.bits.auto.out),
      wrote_clear s c.bits.new.out wrote b.last c.requires.last,
    )

pub returns-clause-set : goal.returns-clause-set
returns-clause-set g c =
    let s = g.S.Walking.meant c.args.set.now in
    let b = c.args.blocks in
    let wrote = c.bits.ensures ∙ ap (λ (n : ℕ). pack (8 * n) (member_after s 0)) (sym c.bits.auto.out) in
    let cover = blocks_cover b.last b.size (omega (arith, b.blocked.0)) in
    wrote_set s c.bits.new.out wrote b.last c.requires.last (omega (arith, cover, (returns-clause-row g c).0, c.requires.last))
