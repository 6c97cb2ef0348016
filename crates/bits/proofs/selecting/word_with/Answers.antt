-- What is left to show of `word_with`.
use Rattle.std.proofs.Common.{◌≡◌, ◌+◌, ◌*◌, ap, arith}
use Rattle.sets.specs.Search.{count_to}
use Rattle.bits.specs.Bits.{is_bit}
use Rattle.bits.proofs.Held.{count_word}
use Rattle.bits.proofs.selecting.word_with.Goals as goal

pub returns-then-left-n-clause-here : goal.returns-then-left-n-clause-here
returns-then-left-n-clause-here c inside = omega (arith, count_word _ c.loop-w.w _ c.whole_word_of-n.ensures)

pub loop-w-preserved : goal.loop-w-preserved
loop-w-preserved c =
    let next : 64 * c.loop-w.w + 64 ≡ 64 * (c.loop-w.w + 1) = omega arith in
    (omega arith, omega (arith, count_word _ c.loop-w.w _ c.whole_word_of-n.ensures, ap (count_to (is_bit c.args.bytes.now c.args.sort)) next))
