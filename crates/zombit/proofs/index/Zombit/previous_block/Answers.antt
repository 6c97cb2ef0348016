-- What is left to show of `Zombit::previous_block`.
use Rattle.std.proofs.Common.{sym, ◌∙◌}
use Rattle.sets.specs.Search.{last_to}
use Rattle.bits.specs.Bits.{is_bit}
use Rattle.zombit.specs.Meant.{U, O, block_has}
use Rattle.zombit.proofs.Skips.{last_either}
use Rattle.zombit.proofs.index.Zombit.previous_block.Goals as goal

pub returns-in-Others : goal.returns-in-Others
returns-in-Others c =
    let z = c.args.self.now in
    let others = c.in-Others.is in
    let marked = c.previous-marked.ensures ∙ (λ t. last_to (is_bit z.marked.now (others t)) c.args.to) in
    let mixed = c.previous.ensures ∙ (λ t. last_to (is_bit z.uniform.now (others t)) c.args.to) in
    c.max.ensures ∙ last_either (U z) (O z) c.args.to _ _ marked mixed ∙ (λ t. last_to (block_has z (sym others t)) c.args.to)
