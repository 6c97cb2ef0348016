-- What is left to show of `next`.
use Rattle.std.proofs.Common.{◌+◌, ◌-◌, ◌/◌, ◌%◌, ◌^◌, ◌<◌, Some, refl, arith, rules}
use lib.Count.{count_trailing_zeros}
use Rattle.sets.proofs.Tests.{first_by}
use Rattle.bits.proofs.Held.{none_past, first_past}
use Rattle.bits.proofs.scan.next.Goals as goal
use Rattle.bits.proofs.scan.next.Goals.{then-p-last+else-v-ne0, else-p-last}

pub returns-then-v-ne0 : goal.returns-then-v-ne0
returns-then-v-ne0 c =
    let k = (c.args.from - 1) % 64 in
    let v = c.whole_word_of.result / 2 ^ k in
    let q = c.args.from + count_trailing_zeros 64 v in
    let some : 0 < v = search rules in
    let first = first_past _ _ 64 _ k v q c.whole_word_of.ensures refl some (omega arith) in
    first_by _ c.args.from _ (Some q) (omega arith, omega (arith, first.2), first.0, λ j a b. first.1 j (omega arith) (omega arith))

pub next_behind-requires-clause-none : goal.next_behind-requires-clause-none
next_behind-requires-clause-none c before i l h =
    elim c.if-p-last.branch [
      | then-p-last+else-v-ne0 w ↦ none_past _ _ 64 _ ((c.args.from - 1) % 64) w.whole_word_of.ensures w.if-v-ne0.false i (omega arith) (omega arith)
      | else-p-last w ↦ absurd (omega arith)
    ]
