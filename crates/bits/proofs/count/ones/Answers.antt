-- What is left to show of `ones`.
use Rattle.std.proofs.Common.{◌≡◌, ◌+◌, ◌-◌, ◌*◌, ◌/◌, ◌%◌, ◌^◌, bit_and, ap, arith}
use lib.Count.{ones}
use Rattle.sets.specs.Search.{count_to}
use Rattle.sets.proofs.Tests.{count_none, count_le}
use Rattle.bits.specs.Bits.{bit_at}
use Rattle.bits.proofs.Digits.{masked}
use Rattle.bits.proofs.Held.{count_part}
use Rattle.bits.proofs.count.ones.Goals as goal

-- the whole words, and the part of the last
whole : (c : goal.After-ones_in_words) → c.ones_in_words.result + ones (bit_and c.word.result (1 * 2 ^ (c.args.i % 64) % 18446744073709551616 - 1)) ≡ count_to (bit_at c.args.bytes.now) c.args.i
whole c =
    let f = bit_at c.args.bytes.now in
    let i = c.args.i in
    let at : 8 * (8 * (i / 64)) ≡ 64 * (i / 64) = omega arith in
    let end : 8 * (8 * (i / 64)) + i % 64 ≡ i = omega arith in
    let part = count_part f _ 64 _ (i % 64) c.word.ensures (omega arith) in
    let mask = ap ones (masked c.word.result (i % 64) 64 (omega arith)) in
    omega (arith, c.ones_in_words.ensures, count_none f, part, mask, ap (count_to f) at, ap (count_to f) end)

pub overflow_add-result : goal.overflow_add-result
overflow_add-result c = omega (arith, whole c, count_le (bit_at c.args.bytes.now) c.args.i)

pub returns : goal.returns
returns c = record { value = whole c; bound = omega (arith, whole c, count_le (bit_at c.args.bytes.now) c.args.i) }
