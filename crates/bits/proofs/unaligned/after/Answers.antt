-- What is left to show of `after`.
use Rattle.std.proofs.Common.{◌≡◌, ℕ, ◌+◌, ◌*◌, ◌/◌, ◌%◌, ◌^◌, subst, arith}
use Rattle.bits.specs.Bits.{bit_at}
use Rattle.bits.specs.Words.{Holds}
use Rattle.bits.proofs.Bytes.{bit_past}
use Rattle.bits.proofs.Moved.{past_held}
use Rattle.bits.proofs.unaligned.after.Goals as goal

pub returns-then-bytes-j-gt8 : goal.returns-then-bytes-j-gt8
returns-then-bytes-j-gt8 c =
    let at : 8 * (c.args.p / 8) + c.args.p % 8 ≡ c.args.p = omega arith in
    subst (λ (p : ℕ). Holds (bit_at c.args.bytes.now) p 64 c.across.result) at c.across.ensures

pub returns-else-bytes-j-gt8 : goal.returns-else-bytes-j-gt8
returns-else-bytes-j-gt8 c =
    let bs = c.args.bytes.now in
    let j = c.args.p / 8 in
    let s = c.args.p % 8 in
    let at : 8 * j + s ≡ c.args.p = omega arith in
    subst (λ (p : ℕ). Holds (bit_at bs) p 64 (c.last_word.result / 2 ^ s)) at (past_held _ (8 * j) s _ (omega arith) c.last_word.ensures (λ i a b. bit_past _ i (omega arith)))
