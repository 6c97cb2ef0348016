-- What is left to show of `across`.
use Rattle.std.proofs.Common.{◌≡◌, ℕ, ◌+◌, ◌*◌, get_or, sym, subst, arith}
use Rattle.bits.specs.Bits.{bit_at}
use Rattle.bits.specs.Words.{Holds}
use Rattle.bits.proofs.Bytes.{byte_held}
use Rattle.bits.proofs.Moved.{across_held}
use Rattle.bits.proofs.unaligned.across.Goals as goal

pub returns : goal.returns
returns c =
    let bs = c.args.bytes.now in
    let j = c.args.j in
    let on : 8 * (j + 8) ≡ 8 * j + 64 = omega arith in
    let held : Holds (bit_at bs) (8 * j + 64) 8 c.from.result =
    subst (λ (b : ℕ). Holds (bit_at bs) (8 * j + 64) 8 b) (sym c.from.ensures)
    (subst (λ (p : ℕ). Holds (bit_at bs) p 8 (get_or bs (j + 8) 0)) on (byte_held bs (j + 8) (c.type_inv.bytes (j + 8)).fits)) in
    across_held (bit_at bs) (8 * j) c.args.s c.whole_word.result c.requires.short c.whole_word.ensures c.from.result held
