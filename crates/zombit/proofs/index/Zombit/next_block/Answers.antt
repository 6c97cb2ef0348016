-- What is left to show of `Zombit::next_block`.
use Rattle.std.proofs.Common.{suc, ◌-◌, sym, ap, ◌∙◌, arith}
use Rattle.std.specs.Option.{unwrap_or}
use Rattle.sets.specs.Search.{first_from}
use Rattle.bits.specs.Bits.{is_bit}
use Rattle.zombit.specs.Meant.{U, O, blocks, block_has}
use Rattle.zombit.proofs.Skips.{found_within, first_either}
use Rattle.zombit.proofs.index.Zombit.next_block.Goals as goal

pub next-requires-clause-within : goal.next-requires-clause-within
next-requires-clause-within c =
    let z = c.args.self.now in
    omega (arith, found_within _ _ _ _ c.next-marked.ensures, z.whole_u, c.count-last.ensures, c.unwrap_or.ensures)

pub returns-in-Others : goal.returns-in-Others
returns-in-Others c =
    let z = c.args.self.now in
    let others = c.in-Others.is in
    let count = c.count-last.ensures in
    let marked = c.next-marked.ensures ∙ (λ t. first_from (is_bit z.marked.now (others t)) c.args.from (suc (count t) - c.args.from)) in
    let to = c.unwrap_or.ensures ∙ ap (unwrap_or c.next-marked.result) count in
    let mixed = c.next.ensures ∙ (λ t. first_from (is_bit z.uniform.now (others t)) c.args.from (suc (to t) - c.args.from)) in
    c.or.ensures ∙ first_either (U z) (O z) c.args.from (blocks z) _ _ marked mixed
    ∙ (λ t. first_from (block_has z (sym others t)) c.args.from (suc (blocks z) - c.args.from))
