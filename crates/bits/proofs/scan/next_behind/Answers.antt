-- What is left to show of `next_behind`.
use Rattle.std.proofs.Common.{◌+◌, ◌*◌, ◌<◌, Some, None, ◌∙◌, arith, rules}
use lib.Count.{count_trailing_zeros}
use Rattle.sets.proofs.Tests.{first_by}
use Rattle.bits.proofs.Held.{joined, none_past, first_past, first_later}
use Rattle.bits.proofs.scan.next_behind.Goals as goal

pub returns-then-x-ne0 : goal.returns-then-x-ne0
returns-then-x-ne0 c =
    let x = c.whole_word_of-x.result in
    let q = 64 * c.loop-w.w + 1 + count_trailing_zeros 64 x in
    let some : 0 < x = search rules in
    let first = first_past _ _ 64 _ 0 x q c.whole_word_of-x.ensures (omega arith) some (omega arith) in
    let before = c.loop-w.invariant (omega arith) in
    first_by _ c.args.from _ (Some q) (omega arith, omega (arith, first.2), first.0, λ j a b. joined _ _ (64 * c.loop-w.w) _ before (λ j a b. first.1 j (omega arith) b) j (omega arith) (omega arith))

pub loop-w-preserved : goal.loop-w-preserved
loop-w-preserved c before =
    let none = none_past _ _ 64 _ 0 c.whole_word_of-x.ensures (omega arith) in
    joined _ _ (64 * c.loop-w.w) _ (c.loop-w.invariant before) (λ j a b. none j (omega arith) (omega arith))

pub returns-then-start-last : goal.returns-then-start-last
returns-then-start-last c = first_by _ _ _ None (λ j l h. c.loop-w.invariant (omega arith) j (omega arith) (omega arith))

pub returns : goal.returns
returns c =
    c.next_in_word.ensures
    ∙ first_later _ c.args.from c.max-start.result c.args.last c.requires.first (omega arith) (λ j a b. c.loop-w.invariant (omega arith) j a (omega arith))
