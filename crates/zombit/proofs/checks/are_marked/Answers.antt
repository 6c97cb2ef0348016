-- What is left to show of `are_marked`.
use Rattle.std.proofs.Common.{ℕ, ◌*◌, not, ◌||◌, sym, ap, ⊎_elim, arith}
use Rattle.std.proofs.lemmas.Bool.{cases_lt}
use Rattle.bits.specs.Bits.{bit_at}
use Rattle.zombit.proofs.Seeing.{some_at, some_by, none_at, none_by}
use Rattle.zombit.proofs.checks.are_marked.Goals as goal

pub returns-then-lacks_mark : goal.returns-then-lacks_mark
returns-then-lacks_mark c =
    let f = λ (i : ℕ). not (bit_at c.args.uniform.now i || bit_at c.args.marked.now i) in
    let q = some_at f _ _ (sym c.if-lacks_mark.ensures) in
    ap not (sym (some_by f 1 c.args.count q.at (omega (arith, q.low)) (omega (arith, q.high)) q.hit))

pub loop-w-preserved : goal.loop-w-preserved
loop-w-preserved c i one last l =
    let f = λ (i : ℕ). not (bit_at c.args.uniform.now i || bit_at c.args.marked.now i) in
    ⊎_elim
    (λ more. none_at f _ _ (sym c.if-lacks_mark.ensures) i (omega arith) (omega arith))
    (λ less. c.loop-w.invariant i one last less)
    (cases_lt (64 * c.loop-w.w) i)

pub returns : goal.returns
returns c =
    let f = λ (i : ℕ). not (bit_at c.args.uniform.now i || bit_at c.args.marked.now i) in
    ap not (sym (none_by f 1 c.args.count (λ i low high. c.loop-w.invariant i low (omega arith) (omega arith))))
