-- What is left to show of `write_ones`.
use Rattle.std.proofs.Common.{◌≡◌, ◌<◌, sym, ap, ◌∙◌, length, List, ℕ, [], arith}
use lib.Count.{ones}
use Rattle.sets.specs.Lists.{over}
use Rattle.strides.specs.Strides.{row_of, numbered}
use Rattle.strides.proofs.Numbering.{zero_none, ones_many, ones_some, run_within, run_numbers}
use Rattle.strides.proofs.numbers.write_ones.Goals as goal

none : (row first : ℕ) → row ≡ 0 → numbered (row_of row) first 64 ≡ []
none row first e = ap (λ x. numbered (row_of x) first 64) e ∙ zero_none first 64

pub returns-then-row-eq0-clause-writes : goal.returns-then-row-eq0-clause-writes
returns-then-row-eq0-clause-writes c = ap (λ (xs : List ℕ). over xs c.args.out.now) (sym (none c.args.row c.args.first c.if-row-eq0.true))

pub returns-then-row-eq0-clause-many : goal.returns-then-row-eq0-clause-many
returns-then-row-eq0-clause-many c = ap length (sym (none c.args.row c.args.first c.if-row-eq0.true))

pub overflow_shr-n : goal.overflow_shr-n
overflow_shr-n c = omega (arith, (ones_some c.args.row (omega arith) c.ranges.row.fits).0)

pub write_run-requires-clause-small : goal.write_run-requires-clause-small
write_run-requires-clause-small c =
    let some : 0 < c.args.row = omega arith in
    let few = ones_some c.args.row some c.ranges.row.fits in
    omega (arith, c.requires.small, run_within c.args.row (ones c.args.row) 0 some c.ranges.row.fits few.0 few.1 c.if-row-lowest.true)

pub returns-then-row-lowest-clause-writes : goal.returns-then-row-lowest-clause-writes
returns-then-row-lowest-clause-writes c =
    let some : 0 < c.args.row = omega arith in
    let few = ones_some c.args.row some c.ranges.row.fits in
    c.write_run.ensures
    ∙ ap (λ (xs : List ℕ). over xs c.args.out.now) (run_numbers c.args.row (ones c.args.row) c.args.first some c.ranges.row.fits few.0 few.1 c.if-row-lowest.true)

pub returns-then-row-lowest-clause-many : goal.returns-then-row-lowest-clause-many
returns-then-row-lowest-clause-many c = ones_many c.args.row c.args.first c.ranges.row.fits

pub returns-else-row-lowest-clause-many : goal.returns-else-row-lowest-clause-many
returns-else-row-lowest-clause-many c = ones_many c.args.row c.args.first c.ranges.row.fits
