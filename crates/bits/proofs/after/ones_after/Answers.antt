-- What is left to show of `ones_after`.
use Rattle.std.proofs.Common.{◌≡◌, ℕ, ◌+◌, ◌-◌, ◌*◌, ◌/◌, ◌%◌, ◌^◌, List, bit_and, ap, arith}
use lib.Count.{ones}
use Rattle.sets.specs.Search.{count_to}
use Rattle.sets.proofs.Tests.{count_mono, count_le}
use Rattle.bits.specs.Bits.{bit_at}
use Rattle.bits.specs.Words.{Holds}
use Rattle.bits.proofs.Digits.{masked}
use Rattle.bits.proofs.Held.{count_part}
use Rattle.bits.proofs.after.ones_after.Goals as goal

-- the first bits of a word
part : (bytes : List ℕ) (i x : ℕ) → Holds (bit_at bytes) (8 * (8 * (i / 64))) 64 x
    → count_to (bit_at bytes) i ≡ count_to (bit_at bytes) (64 * (i / 64)) + ones (bit_and x (1 * 2 ^ (i % 64) % 18446744073709551616 - 1))
part bytes i x held =
    let f = bit_at bytes in
    let at : 8 * (8 * (i / 64)) ≡ 64 * (i / 64) = omega arith in
    let end : 8 * (8 * (i / 64)) + i % 64 ≡ i = omega arith in
    let mask = ap ones (masked x (i % 64) 64 (omega arith)) in
    omega (arith, count_part f _ 64 _ (i % 64) held (omega arith), mask, ap (count_to f) at, ap (count_to f) end)

pub overflow_add-result : goal.overflow_add-result
overflow_add-result c =
    let bs = c.args.bytes.now in
    omega (arith, c.ones_in_words.ensures, part bs c.args.to _ c.word-2.ensures, count_le (bit_at bs) c.args.to)

pub overflow_sub-result : goal.overflow_sub-result
overflow_sub-result c =
    let bs = c.args.bytes.now in
    omega (arith, c.ones_in_words.ensures, part bs c.args.from _ c.word.ensures, part bs c.args.to _ c.word-2.ensures, count_mono (bit_at bs) c.args.from c.args.to c.requires.order)

pub returns : goal.returns
returns c =
    let bs = c.args.bytes.now in
    omega (arith, c.ones_in_words.ensures, part bs c.args.from _ c.word.ensures, part bs c.args.to _ c.word-2.ensures, count_mono (bit_at bs) c.args.from c.args.to c.requires.order)
