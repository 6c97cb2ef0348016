-- What is left to show of `put_ends`.
use Rattle.std.proofs.Common.{◌+◌, ◌-◌, ◌*◌, length, refl, arith}
use Rattle.std.proofs.lemmas.Nat.{and_le_r}
use Rattle.bits.specs.Bits.{bit_at}
use Rattle.bits.proofs.Held.{count_all}
use Rattle.sets.proofs.Tests.{count_le}
use Rattle.pioneer.proofs.Writing.{last_held, ending_first, ending_last, end_number, end_some, end_most, ending_next}
use Rattle.pioneer.proofs.write.put_ends.Goals as goal

pub loop-ends-init : goal.loop-ends-init
loop-ends-init c =
    ending_first c.args.row.now (64 * c.args.w) c.args.sums.now _ (last_held (bit_at c.args.row.now) c.args.w c.row-members.result c.row.result c.row-members.ensures c.row.ensures)

pub overflow_add-before : goal.overflow_add-before
overflow_add-before c =
    let row = c.args.row.now in
    let number = end_number row (64 * c.args.w) c.args.sums.now c.loop-ends.sums _ c.loop-ends.invariant (omega arith) c.row-members.result c.args.before _ c.row-members.ensures c.requires.all refl in
    let most = end_most row (64 * c.args.w) c.args.sums.now c.loop-ends.sums _ c.loop-ends.invariant (omega arith) in
    omega (arith, number, most, count_le (bit_at row) (8 * length row))

pub put-requires-clause-first : goal.put-requires-clause-first
put-requires-clause-first c =
    let row = c.args.row.now in
    let number = end_number row (64 * c.args.w) c.args.sums.now c.loop-ends.sums _ c.loop-ends.invariant (omega arith) c.row-members.result c.args.before _ c.row-members.ensures c.requires.all refl in
    omega (arith, number, end_some row (64 * c.args.w) c.args.sums.now c.loop-ends.sums _ c.loop-ends.invariant (omega arith))

pub put-requires-clause-within : goal.put-requires-clause-within
put-requires-clause-within c =
    let row = c.args.row.now in
    let number = end_number row (64 * c.args.w) c.args.sums.now c.loop-ends.sums _ c.loop-ends.invariant (omega arith) c.row-members.result c.args.before _ c.row-members.ensures c.requires.all refl in
    let most = end_most row (64 * c.args.w) c.args.sums.now c.loop-ends.sums _ c.loop-ends.invariant (omega arith) in
    omega (arith, number, most, c.loop-ends.invariant.long)

pub loop-ends-smaller : goal.loop-ends-smaller
loop-ends-smaller c = omega (arith, and_le_r c.loop-ends.ends (c.loop-ends.ends - 1))

pub loop-ends-preserved : goal.loop-ends-preserved
loop-ends-preserved c =
    let row = c.args.row.now in
    let number = end_number row (64 * c.args.w) c.args.sums.now c.loop-ends.sums _ c.loop-ends.invariant (omega arith) c.row-members.result c.args.before _ c.row-members.ensures c.requires.all refl in
    ending_next row (64 * c.args.w) c.args.sums.now c.loop-ends.sums _ c.loop-ends.invariant (omega arith) _ c.put.new.bytes number c.put.ensures.long c.put.ensures.bits

pub overflow_add-result : goal.overflow_add-result
overflow_add-result c =
    let row = c.args.row.now in
    omega (arith, count_all (bit_at row) (64 * c.args.w) 64 c.row-members.result c.row-members.ensures, c.requires.all, count_le (bit_at row) (64 * c.args.w + 64))

pub returns-clause-count : goal.returns-clause-count
returns-clause-count c =
    omega (arith, count_all (bit_at c.args.row.now) (64 * c.args.w) 64 c.row-members.result c.row-members.ensures, c.requires.all)

pub returns-clause-sums : goal.returns-clause-sums
returns-clause-sums c = ending_last c.args.row.now (64 * c.args.w) c.args.sums.now c.loop-ends.sums _ (omega (arith, c.loop-ends-test.false)) c.loop-ends.invariant
