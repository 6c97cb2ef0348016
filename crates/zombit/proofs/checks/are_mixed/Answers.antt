-- What is left to show of `are_mixed`.
use Rattle.std.proofs.Common.{ℕ, ◌*◌, not, ◌&&◌, sym, ap, ◌∙◌, arith}
use Rattle.bits.specs.Bits.{bit_at}
use Rattle.zombit.specs.Looking.{both_in}
use Rattle.zombit.proofs.Seeing.{some_by, none_by}
use Rattle.zombit.proofs.checks.are_mixed.Goals as goal

pub returns-then-not-is_mixed : goal.returns-then-not-is_mixed
returns-then-not-is_mixed c =
    let f = λ (k : ℕ). not (both_in (bit_at c.args.mixed.now) (k * c.args.size) c.args.size) in
    let here = ap not (sym (c.if-not-is_mixed.ensures ∙ (λ i. c.look.ensures.one i && c.look.ensures.zero i))) in
    ap not (sym (some_by f 0 c.args.n c.loop-k.k (omega arith) (omega arith) here))

pub returns : goal.returns
returns c =
    let f = λ (k : ℕ). not (both_in (bit_at c.args.mixed.now) (k * c.args.size) c.args.size) in
    ap not (sym (none_by f 0 c.args.n (λ k low high. ap not (c.loop-k.invariant k (omega arith)))))
