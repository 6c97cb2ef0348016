-- What is left to show of `Zombit::first_in_block`.
use Rattle.std.proofs.Common.{rules}
use Rattle.zombit.proofs.Found.{first_inside, first_in}
use Rattle.zombit.proofs.Indexed.{bits_within, small_mixed}
use Rattle.zombit.proofs.index.Zombit.first_in_block.Goals as goal

pub place_in_block-requires-clause-callable : goal.place_in_block-requires-clause-callable
place_in_block-requires-clause-callable c = λ mixed.
    let within = bits_within c.args.self.now _ c.requires.block mixed in
    let small = small_mixed c.args.self.now in
    search rules

pub place_in_block-requires-clause-inside : goal.place_in_block-requires-clause-inside
place_in_block-requires-clause-inside c = λ q mixed found.
    first_inside c.args.self.now c.args.sort c.args.k c.args.at (c.requires.first, c.requires.end) q (search rules)

pub returns : goal.returns
returns c =
    first_in c.args.self.now c.args.sort c.args.k c.args.at (c.requires.first, c.requires.end) c.requires.block _ (λ b found. search rules) _
    c.place_in_block.ensures
