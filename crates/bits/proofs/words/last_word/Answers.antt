-- What is left to show of `last_word`.
use Rattle.std.proofs.Common.{◌≡◌, ℕ, ◌+◌, ◌-◌, ◌*◌, ◌≤◌, length, subst, arith, pow_mono, lt_of_lt_of_le}
use Rattle.bits.specs.Bits.{bit_at}
use Rattle.bits.specs.Words.{Holds}
use Rattle.bits.proofs.Bytes.{bytes_before, bit_past, none_held}
use Rattle.bits.proofs.Held.{longer}
use Rattle.bits.proofs.words.last_word.Goals as goal

-- one more byte
more : (c : goal.After-from) → Holds (bit_at c.args.bytes.now) (8 * (c.loop-k.k - 1)) (8 * (length c.args.bytes.now - (c.loop-k.k - 1))) (256 * c.loop-k.w + c.from.result)
more c =
    let bs = c.args.bytes.now in
    let k = c.loop-k.k in
    bytes_before bs k (length bs - k) (length bs - (k - 1)) c.loop-k.w c.from.result (omega arith) (c.type_inv.bytes (k - 1)).fits c.from.ensures (omega arith) c.loop-k.invariant.1

pub loop-k-init : goal.loop-k-init
loop-k-init c =
    let none : 0 ≡ 8 * (length c.args.bytes.now - length c.args.bytes.now) = omega arith in
    (c.requires.within, subst (λ (n : ℕ). Holds (bit_at c.args.bytes.now) (8 * length c.args.bytes.now) n 0) none (none_held c.args.bytes.now _))

pub overflow_mul-w : goal.overflow_mul-w
overflow_mul-w c =
    let few : 8 * (length c.args.bytes.now - c.loop-k.k) ≤ 56 = omega arith in
    omega (arith, lt_of_lt_of_le c.loop-k.invariant.1.small (pow_mono few))

pub overflow_add-w : goal.overflow_add-w
overflow_add-w c =
    let few : 8 * (length c.args.bytes.now - (c.loop-k.k - 1)) ≤ 64 = omega arith in
    omega (arith, lt_of_lt_of_le (more c).small (pow_mono few))

pub loop-k-preserved : goal.loop-k-preserved
loop-k-preserved c = (omega arith, more c)

pub returns : goal.returns
returns c =
    let bs = c.args.bytes.now in
    let j = c.args.j in
    let at : c.loop-k.k ≡ j = omega (arith, c.loop-k.invariant.0) in
    let held : Holds (bit_at bs) (8 * j) (8 * (length bs - j)) c.loop-k.w = subst (λ (k : ℕ). Holds (bit_at bs) (8 * k) (8 * (length bs - k)) c.loop-k.w) at c.loop-k.invariant.1 in
    longer (bit_at bs) (8 * j) (8 * (length bs - j)) 64 c.loop-k.w held (omega arith) (λ i a b. bit_past bs i (omega arith))
