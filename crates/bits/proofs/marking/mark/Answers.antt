-- What is left to show of `mark`.
use Rattle.std.proofs.Common.{◌≡◌, ◌+◌, ◌||◌, length, ap, ◌∙◌, arith, rules}
use Rattle.bits.specs.Rows.{run}
use Rattle.bits.specs.Words.{in_word, in_bytes, Adds}
use Rattle.bits.proofs.Adding.{over_adds}
use Rattle.bits.proofs.Runs.{run_of_three, run_of_one, run_past, low, high, tail}
use Rattle.bits.proofs.marking.mark.Goals as goal

pub returns-then-low-high-clause-bits : goal.returns-then-low-high-clause-bits
returns-then-low-high-clause-bits c n f old past e room =
    let first = c.args.first in
    let last = c.args.last in
    let before = c.args.bytes.now in
    let one = c.requires.first in
    let order = c.if-first-last.false in
    let ones : Adds (run first last) before c.lay.new.bytes = λ i from_one within. c.lay.ensures.ones i from_one within ∙ run_of_one first last one order i _ from_one c.if-low-high.true in
    over_adds n f old before e room (run first last) c.lay.new.bytes (λ i l. run_past first last one order n i past l) ones c.lay.ensures.long (λ j. (c.type_inv.bytes j).fits) (λ j. search rules)

pub returns-else-low-high-clause-bits : goal.returns-else-low-high-clause-bits
returns-else-low-high-clause-bits c n f old past e room =
    let first = c.args.first in
    let last = c.args.last in
    let before = c.args.bytes.now in
    let after = c.lay-else-low-high.new.bytes in
    let one = c.requires.first in
    let order = c.if-first-last.false in
    let long : length after ≡ length before = omega (arith, c.lay-else-low-high.ensures.long, c.fill.ensures.long, c.lay_whole.ensures.long) in
    let ones : Adds (run first last) before after = λ i from_one within.
    c.lay-else-low-high.ensures.ones i from_one (omega (arith, c.fill.ensures.long, c.lay_whole.ensures.long))
    ∙ ap (λ b. in_word (high first last one order) (tail first last one order) i || b)
    (c.fill.ensures.ones i from_one (omega (arith, c.lay_whole.ensures.long))
    ∙ ap (λ b. in_bytes (low first last one order + 8) (high first last one order) i || b) (c.lay_whole.ensures.ones i from_one within))
    ∙ run_of_three first last one order i _ from_one (omega arith) in
    over_adds n f old before e room (run first last) after (λ i l. run_past first last one order n i past l) ones long (λ j. (c.type_inv.bytes j).fits) (λ j. search rules)
