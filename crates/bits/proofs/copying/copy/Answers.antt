-- What is left to show of `copy`.
use Rattle.std.proofs.Common.{◌≡◌, ℕ, ◌+◌, ◌-◌, ◌*◌, ◌/◌, ◌%◌, ◌||◌, length, ap, subst, ◌∙◌, arith, rules}
use Rattle.bits.specs.Bits.{bit_at}
use Rattle.bits.specs.Rows.{moved}
use Rattle.bits.specs.Words.{Adds}
use Rattle.bits.proofs.Adding.{over_adds}
use Rattle.bits.proofs.Laid.{moved_on, moved_past}
use Rattle.bits.proofs.copying.copy.Goals as goal

pub returns-then-head-n-clause-bits : goal.returns-then-head-n-clause-bits
returns-then-head-n-clause-bits c n f old past e room =
    let row = bit_at c.args.from.now in
    let p = c.args.at in
    let q = c.args.before in
    let all = c.args.count in
    let head = c.min-head.result in
    let middle = 64 * ((all - head - 1) / 64) in
    let to : 8 * ((p + head) / 8) ≡ p + head = omega arith in
    let at : 8 * ((q + head) / 8) + (q + head) % 8 ≡ q + head = omega arith in
    let before = c.args.bytes.now in
    let after = c.copy_few-then-head-n.new.bytes in
    let long : length after ≡ length before = omega (arith, c.copy_few-then-head-n.ensures.long, c.copy_words.ensures.long, c.copy_few.ensures.long) in
    let ones : Adds (moved p all row q) before after = λ i one within.
    c.copy_few-then-head-n.ensures.ones i one (omega (arith, c.copy_words.ensures.long, c.copy_few.ensures.long))
    ∙ ap (λ b. moved (p + (head + middle)) (all - (head + middle)) row (q + (head + middle)) i || b)
    (c.copy_words.ensures.ones i one (omega (arith, c.copy_few.ensures.long))
    ∙ ap (λ b. b || bit_at c.copy_few.new.bytes i) (λ k. moved (to k) middle row (at k) i)
    ∙ ap (λ b. moved (p + head) middle row (q + head) i || b) (c.copy_few.ensures.ones i one within)
    ∙ moved_on p head middle (head + middle) row q i _ (omega arith))
    ∙ moved_on p (head + middle) (all - (head + middle)) all row q i _ (omega arith) in
    over_adds n f old before e room (moved p all row q) after (λ i l. moved_past _ _ row _ i (omega arith)) ones long (λ j. (c.type_inv.bytes j).fits) (λ j. search rules)

pub returns-else-head-n-clause-bits : goal.returns-else-head-n-clause-bits
returns-else-head-n-clause-bits c n f old past e room =
    let row = bit_at c.args.from.now in
    let before = c.args.bytes.now in
    let all : c.min-head.result ≡ c.args.count = omega arith in
    let ones = subst (λ (k : ℕ). Adds (moved c.args.at k row c.args.before) before c.copy_few.new.bytes) all c.copy_few.ensures.ones in
    over_adds n f old before e room (moved c.args.at c.args.count row c.args.before) c.copy_few.new.bytes (λ i l. moved_past _ _ row _ i (omega arith)) ones c.copy_few.ensures.long
    (λ j. (c.type_inv.bytes j).fits) (λ j. search rules)
