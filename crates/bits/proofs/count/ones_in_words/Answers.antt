-- What is left to show of `ones_in_words`.
use Rattle.std.proofs.Common.{◌≡◌, ◌+◌, ◌*◌, ap, arith}
use lib.Count.{ones}
use Rattle.sets.specs.Search.{count_to}
use Rattle.sets.proofs.Tests.{count_le}
use Rattle.bits.specs.Bits.{bit_at}
use Rattle.bits.proofs.Held.{count_word}
use Rattle.bits.proofs.count.ones_in_words.Goals as goal

-- one more word
more : (c : goal.After-whole_word) → count_to (bit_at c.args.bytes.now) (64 * (c.loop-w.w + 1)) ≡ count_to (bit_at c.args.bytes.now) (64 * c.args.from) + (c.loop-w.n + ones c.whole_word.result)
more c =
    let next : 64 * c.loop-w.w + 64 ≡ 64 * (c.loop-w.w + 1) = omega arith in
    omega (arith, count_word _ c.loop-w.w _ c.whole_word.ensures, ap (count_to (bit_at c.args.bytes.now)) next)

pub overflow_add-n : goal.overflow_add-n
overflow_add-n c = omega (arith, more c, count_le (bit_at c.args.bytes.now) (64 * (c.loop-w.w + 1)))

pub loop-w-preserved : goal.loop-w-preserved
loop-w-preserved c = more c
