-- What is left to show of `check_marks`.
use Rattle.std.proofs.Common.{ℕ, not, ◌||◌, sym, ap, ◌∙◌, arith}
use Rattle.std.proofs.lemmas.Bool.{not-true, not-false}
use Rattle.bits.specs.Bits.{bit_at}
use Rattle.zombit.specs.Opening.{some_in}
use Rattle.zombit.proofs.Passes.{mark_lacks, mark_past, marks_fit}
use Rattle.zombit.proofs.checks.check_marks.Goals as goal

pub returns-then-not-are_marked : goal.returns-then-not-are_marked
returns-then-not-are_marked c =
    let b = c.args.blocks in
    let U = bit_at c.args.uniform.now in
    let O = bit_at c.args.marked.now in
    let e = c.if-not-are_marked.ensures in
    mark_lacks b.last b.size U (omega (arith, b.blocked.0)) b.sized.0 O (not-false _ (sym (e ∙ ap (λ (n : ℕ). not (some_in (λ i. not (U i || O i)) 0 n)) c.count.ensures)))

pub returns-then-is_overfull : goal.returns-then-is_overfull
returns-then-is_overfull c =
    let b = c.args.blocks in
    mark_past b.last b.size (bit_at c.args.uniform.now) (omega (arith, b.blocked.0)) b.sized.0 (bit_at c.args.marked.now) (sym c.if-is_overfull.ensures)

pub returns : goal.returns
returns c =
    let b = c.args.blocks in
    let U = bit_at c.args.uniform.now in
    let O = bit_at c.args.marked.now in
    let e = c.if-not-are_marked.ensures in
    marks_fit b.last b.size U (omega (arith, b.blocked.0)) b.sized.0 O
    (not-true _ (sym (e ∙ ap (λ (n : ℕ). not (some_in (λ i. not (U i || O i)) 0 n)) c.count.ensures)))
    (sym c.if-is_overfull.ensures)
