-- What is left to show of `copy_bits`.
use Rattle.std.proofs.Common.{◌*◌, false, length, ◌∙◌, arith}
use Rattle.bits.proofs.Fronts.{over_whole, zeros_whole}
use Rattle.plain.proofs.Shifted.{all_moved}
use Rattle.plain.proofs.behind.copy_bits.Goals as goal

pub returns : goal.returns
returns c =
    let out = c.args.out.now in
    let n = 8 * length out in
    let cleared = zeros_whole out c.fill.new.self (c.fill.ensures.after (λ y e. e)) in
    c.copy.ensures.bits n (λ i. false) out (omega arith) cleared (omega arith)
    ∙ over_whole out _
    ∙ all_moved c.args.bytes.now (length out) c.args.before c.min-from.result c.min-2.result c.requires.few c.min-from.ensures (omega arith)
