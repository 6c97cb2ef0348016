-- What is left to show of `PlainSlip::fill`.
use Rattle.std.proofs.Common.{◌≡◌, ◌≤◌, length, ap, ◌∙◌, rules}
use Rattle.plain.specs.Filling.{bits_of}
use Rattle.plain.specs.declared.told.PlainTold.{PlainTold}
use Rattle.plain.proofs.Packed.{all_written}
use Rattle.plain.proofs.slip.PlainSlip.fill.Goals as goal
use Rattle.plain.proofs.slip.PlainSlip.fill.Goals.{then-is_ok, else-is_ok}

pub returns-clause-bits : goal.returns-clause-bits
returns-clause-bits g c =
    let s = g.S.Walking.meant c.args.self.set in
    let n = c.args.self.told.bits in
    let long : n ≡ length (bits_of s) = ap (λ (t : PlainTold). t.bits) c.args.self.is in
    elim c.if-is_ok.branch [
      | then-is_ok w ↦
          let room : n ≤ length c.args.bits.now = search rules in
          let all = w.bits-is ∙ all_written s n w.bits.new.out c.args.bits.now long room w.bits.ensures in
          search rules
      | else-is_ok w ↦ search rules
    ]
