-- What is left to show of `write_ones`.
use Rattle.std.proofs.Common.{◌-◌, ◌<◌, lt_of_not-le, arith}
use Rattle.std.proofs.lemmas.Nat.{and_le_r}
use Rattle.list.proofs.Taken.{going_start, going_end, going_on, one_here, more_room}
use Rattle.list.proofs.ones.write_ones.Goals as goal

pub loop-left-init : goal.loop-left-init
loop-left-init c = (0, going_start c.args.w c.args.before c.args.numbers.now (c.ranges.w.fits))

some_left : (c : goal.In-loop-left) → 0 < c.loop-left.left
some_left c = lt_of_not-le (λ none. c.loop-left-test.true (omega arith))

pub overflow_cast-numbers : goal.overflow_cast-numbers
overflow_cast-numbers c =
    let inv = c.loop-left.invariant in
    let one = one_here c.args.w c.args.before c.args.numbers.now _ _ inv.0 _ inv.1 (some_left c) in
    omega (arith, c.requires.small _ one.0 one.1)

pub bounds-numbers-n : goal.bounds-numbers-n
bounds-numbers-n c =
    let inv = c.loop-left.invariant in
    more_room c.args.w c.args.before c.args.numbers.now _ _ inv.0 _ inv.1 (some_left c) c.requires.room

pub loop-left-smaller : goal.loop-left-smaller
loop-left-smaller c = omega (arith, some_left c, and_le_r c.loop-left.left (c.loop-left.left - 1))

pub loop-left-preserved : goal.loop-left-preserved
loop-left-preserved c =
    let inv = c.loop-left.invariant in
    (_, going_on c.args.w c.args.before c.args.numbers.now _ _ inv.0 _ inv.1 (some_left c) c.requires.room)

pub returns-clause-count : goal.returns-clause-count
returns-clause-count c =
    let inv = c.loop-left.invariant in
    (going_end c.args.w c.args.before c.args.numbers.now _ _ inv.0 _ inv.1 c.loop-left-test.false).0

pub returns-clause-wrote : goal.returns-clause-wrote
returns-clause-wrote c =
    let inv = c.loop-left.invariant in
    (going_end c.args.w c.args.before c.args.numbers.now _ _ inv.0 _ inv.1 c.loop-left-test.false).1
