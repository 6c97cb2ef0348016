-- What is left to show of `copy_few`.
use Rattle.std.proofs.Common.{◌-◌, ◌^◌, ◌/◌, ◌||◌, bit_and, ap, ◌∙◌, arith}
use Rattle.bits.specs.Bits.{bit_at}
use Rattle.bits.specs.Words.{Holds}
use Rattle.bits.proofs.Held.{front_held}
use Rattle.bits.proofs.Laid.{moved_word}
use Rattle.bits.proofs.copying.copy_few.Goals as goal

pub returns-clause-ones : goal.returns-clause-ones
returns-clause-ones c i one last =
    let n = c.args.n in
    let x = bit_and c.after.result ((2 ^ 64 - 1) / 2 ^ (64 - n)) in
    let held : Holds (bit_at c.args.from.now) c.args.q n x = front_held _ c.args.q 64 c.after.result (64 - n) n c.after.ensures (omega arith) in
    c.lay.ensures.ones i one last ∙ ap (λ b. b || bit_at c.args.bytes.now i) (moved_word (bit_at c.args.from.now) c.args.p n c.args.q x i c.requires.few held)
