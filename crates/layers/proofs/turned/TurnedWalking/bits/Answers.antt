-- What is left to show of `TurnedWalking::bits`.
use Rattle.std.proofs.Common.{◌≡◌, ℕ, ◌-◌, ◌*◌, not, length, sym, ap, ◌∙◌, arith}
use Rattle.sets.specs.Packing.{pack, member_after}
use Rattle.bits.specs.Rows.{first_bits}
use Rattle.layers.proofs.Packed.{turned_bits}
use Rattle.layers.proofs.Turns.{turned_length}
use Rattle.layers.proofs.turned.TurnedWalking.bits.Goals as goal

pub returns : goal.returns
returns g c =
    let s = g.S.Walking.meant c.args.self.now.below in
    let before = c.args.before in
    let size = length c.args.out.now in
    let left = c.saturating_sub.result in
    let beneath : length c.bits.new.out ≡ size = omega arith in
    let after : length c.turn.new.bytes ≡ size = omega arith in
    let told = c.bits.ensures ∙ ap (λ (m : ℕ). pack (8 * m) (member_after s before)) (sym beneath) in
    let others = λ (j : ℕ). not (member_after s before j) in
    let turned = c.turn.ensures (member_after s before) told ∙ ap (λ (m : ℕ). pack (8 * m) others) (beneath ∙ sym after) in
    c.cut.ensures others turned
    ∙ ap (λ (m : ℕ). pack (8 * m) (first_bits left others)) after
    ∙ turned_bits s (8 * size) before left (c.saturating_sub.ensures ∙ ap (λ (u : ℕ). u - before) (c.last.ensures ∙ turned_length s))
