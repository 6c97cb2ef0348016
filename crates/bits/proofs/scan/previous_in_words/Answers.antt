-- What is left to show of `previous_in_words`.
use Rattle.std.proofs.Common.{◌+◌, ◌-◌, ◌*◌, None, arith, rules}
use Rattle.std.specs.Int.Count.{count_leading_zeros}
use Rattle.sets.proofs.Tests.{last_by}
use Rattle.bits.proofs.Held.{joined, none_past, last_in_lem}
use Rattle.bits.proofs.scan.previous_in_words.Goals as goal

pub returns-then-x-ne0 : goal.returns-then-x-ne0
returns-then-x-ne0 c =
    let w = c.loop-w.w - 1 in
    let x = c.whole_word_of-x.result in
    let l = last_in_lem _ _ 64 _ _ (64 * w + (64 - count_leading_zeros 64 x)) c.whole_word_of-x.ensures (omega arith) (search rules) (omega arith) in
    last_by _ _ _ (l.0, omega (arith, l.1), l.2, joined _ _ (64 * c.loop-w.w) _ (λ j a b. l.3 j a (omega arith)) c.loop-w.invariant.1)

pub loop-w-preserved : goal.loop-w-preserved
loop-w-preserved c =
    let none = none_past _ _ _ _ 0 c.whole_word_of-x.ensures (omega arith) in
    (omega arith, joined _ _ (64 * c.loop-w.w) _ (λ j a b. none j (omega arith) (omega arith)) c.loop-w.invariant.1)

pub returns : goal.returns
returns c = last_by _ _ None (λ j l h. c.loop-w.invariant.1 j (omega arith) h)
