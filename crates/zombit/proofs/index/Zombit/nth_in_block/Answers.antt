-- What is left to show of `Zombit::nth_in_block`.
use Rattle.std.proofs.Common.{◌-◌, ◌≤◌, arith, rules}
use Rattle.zombit.proofs.Counted.{left_few, nth_inside, nth_in}
use Rattle.zombit.proofs.Indexed.{bits_within, small_mixed}
use Rattle.zombit.proofs.Onward.{shared}
use Rattle.zombit.proofs.index.Zombit.nth_in_block.Goals as goal

pub overflow_sub-left : goal.overflow_sub-left
overflow_sub-left c = omega (arith, shared c.args.self.now c.args.sort _ _ _ c.requires.is.members c.share.ensures, c.requires.before)

pub place_in_block-requires-clause-end : goal.place_in_block-requires-clause-end
place_in_block-requires-clause-end c =
    omega (arith, left_few c.args.self.now c.args.sort c.args.passed.block c.args.n _ c.requires.block c.requires.before c.requires.reached (shared c.args.self.now c.args.sort _ _ _ c.requires.is.members c.share.ensures))

pub place_in_block-requires-clause-callable : goal.place_in_block-requires-clause-callable
place_in_block-requires-clause-callable c = λ mixed.
    let z = c.args.self.now in
    let within = bits_within z _ c.requires.block mixed in
    let small = small_mixed z in
    let size = z.blocks.blocked.1 in
    let counted = shared z c.args.sort _ _ _ c.requires.is.members c.share.ensures in
    let before = c.requires.before in
    let some : 1 ≤ c.args.n - c.share.result = omega (arith, counted, before) in
    let few = left_few z c.args.sort c.args.passed.block c.args.n _ c.requires.block c.requires.before c.requires.reached (shared c.args.self.now c.args.sort _ _ _ c.requires.is.members c.share.ensures) in
    search rules

pub place_in_block-requires-clause-inside : goal.place_in_block-requires-clause-inside
place_in_block-requires-clause-inside c = λ q mixed found.
    nth_inside c.args.self.now c.args.sort c.args.passed.block c.args.n _ c.requires.block c.requires.before c.requires.reached (shared c.args.self.now c.args.sort _ _ _ c.requires.is.members c.share.ensures) q (search rules)

pub returns : goal.returns
returns c =
    nth_in c.args.self.now c.args.sort c.args.passed.block c.args.n _ c.requires.block c.requires.before c.requires.reached (shared c.args.self.now c.args.sort _ _ _ c.requires.is.members c.share.ensures)
    _ (λ b found. search rules) _ c.place_in_block.ensures
