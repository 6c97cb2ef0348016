-- What is left to show of `LevelWalking::bits`.
use Rattle.std.proofs.Common.{◌≡◌, ℕ, ◌-◌, ◌*◌, length, sym, ap, ◌∙◌, arith}
use Rattle.sets.specs.Packing.{pack, member_after}
use Rattle.bits.specs.Rows.{first_bits}
use Rattle.layers.proofs.Levels.{level_length}
use Rattle.layers.proofs.Packed.{level_bits}
use Rattle.layers.proofs.asks.LevelWalking.bits.Goals as goal

pub returns : goal.returns
returns g c =
    let self = c.args.self.now in
    let s = g.S.Walking.meant self.below in
    let sized = g.met.S.Walking.sized self.below in
    let before = c.args.before in
    let size = length c.args.out.now in
    let left = c.saturating_sub.result in
    let beneath = c.beneath.result in
    let same : length c.bits.new.out ≡ size = omega arith in
    let told = c.bits.ensures ∙ ap (λ (m : ℕ). pack (8 * m) (member_after s beneath)) (sym same) in
    let last = c.last.ensures ∙ level_length s self.first self.last self.bays sized in
    c.cut.ensures (member_after s beneath) told
    ∙ ap (λ (m : ℕ). pack (8 * m) (first_bits left (member_after s beneath))) same
    ∙ level_bits s self.first self.last self.bays sized (8 * size) before beneath left c.beneath.ensures
    (c.saturating_sub.ensures ∙ ap (λ (u : ℕ). u - before) last)
