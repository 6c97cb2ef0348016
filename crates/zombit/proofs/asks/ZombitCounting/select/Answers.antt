-- What is left to show of `ZombitCounting::select`.
use Rattle.std.proofs.Common.{◌≡◌, ℕ, ◌+◌, ◌*◌, ◌≤◌, None, ap, ◌∙◌, inl, inr, zero-mul, suc-mul, add-one, arith}
use Rattle.sets.specs.Search.{count_to}
use Rattle.sets.proofs.Tests.{count_none}
use Rattle.sets.proofs.Only.{select_by}
use Rattle.sets.specs.Made.{made_length}
use Rattle.sets.specs.Sets.{rank_of}
use Rattle.zombit.specs.Meant.{blocks, bays, meaning, sorted, cut_at}
use Rattle.zombit.proofs.Asked.{select_is, select_none}
use Rattle.zombit.proofs.Onward.{none_passed}
use Rattle.zombit.proofs.asks.ZombitCounting.select.Goals as goal
use Rattle.zombit.proofs.asks.ZombitCounting.select.Goals.{then-n-eq0-via-then-n-eq0, then-n-eq0-via-else-n-eq0+then-n-rank}

pub returns-then-n-eq0 : goal.returns-then-n-eq0
returns-then-n-eq0 c =
    let z = c.args.self.now in
    let s = meaning z in
    let sort = c.args.sort in
    elim c.then-n-eq0.branch [
      | then-n-eq0-via-then-n-eq0 w ↦ select_by s sort c.args.n None (inl w.if-n-eq0.true)
      | then-n-eq0-via-else-n-eq0+then-n-rank w ↦
          let last = made_length z.blocks.last (bays z) in
          select_by s sort c.args.n None (inr (omega (arith, w.if-n-rank.true, w.rank.ensures, ap (rank_of s sort) last)))
    ]

pub pass-group-requires-clause-is : goal.pass-group-requires-clause-is
pass-group-requires-clause-is c = none_passed c.args.self.now

pub pass-group-requires-clause-before : goal.pass-group-requires-clause-before
pass-group-requires-clause-before c =
    let z = c.args.self.now in
    let f = sorted z c.args.sort in
    omega (arith, ap (count_to f) (zero-mul z.blocks.size) ∙ count_none f, c.if-n-eq0.false)

pub returns-then-passed-count : goal.returns-then-passed-count
returns-then-passed-count c =
    let z = c.args.self.now in
    let f = sorted z c.args.sort in
    let all = ap (λ (k : ℕ). count_to f (k * z.blocks.size)) (c.if-passed-count.true ∙ c.count.ensures) in
    select_none z _ _ (inr (omega (arith, all, c.pass-passed.ensures.before)))

pub nth_in_block-requires-clause-block : goal.nth_in_block-requires-clause-block
nth_in_block-requires-clause-block c =
    omega (arith, c.pass-passed.ensures.is.within, c.if-passed-count.false, c.count.ensures)

pub nth_in_block-requires-clause-reached : goal.nth_in_block-requires-clause-reached
nth_in_block-requires-clause-reached c =
    let z = c.args.self.now in
    let f = sorted z c.args.sort in
    let k = c.pass-passed.result.block in
    let next : (k + 1) * z.blocks.size ≡ k * z.blocks.size + z.blocks.size = ap (λ (x : ℕ). x * z.blocks.size) (add-one k) ∙ suc-mul k z.blocks.size in
    let more : k + 1 ≤ blocks z = omega (arith, nth_in_block-requires-clause-block c) in
    omega (arith, c.pass-passed.ensures.reached more, ap (count_to f) next)

pub returns : goal.returns
returns c =
    let z = c.args.self.now in
    c.within.ensures ∙ ap (cut_at z.blocks.last) c.nth_in_block.ensures ∙ select_is z _ _
