-- What is left to show of `Zombit::last_to_block`.
use Rattle.std.proofs.Common.{◌≡◌, None, ◌∙◌, arith, rules}
use Rattle.zombit.specs.Meant.{block_has}
use Rattle.zombit.proofs.Found.{last_jump, last_end}
use Rattle.zombit.proofs.Skips.{last_is}
use Rattle.zombit.proofs.index.Zombit.last_to_block.Goals as goal

pub returns-in_err-bit : goal.returns-in_err-bit
returns-in_err-bit c =
    let none : c.from_residual.result ≡ None = search rules in
    none ∙ last_end c.args.self.now _ _ c.requires.block c.in_err-bit.ensures

pub overflow_sub-bit : goal.overflow_sub-bit
overflow_sub-bit c = (last_is (block_has c.args.self.now c.args.sort) _ _ c.in_ok-bit.ensures).0

pub last_in_block-requires-clause-block : goal.last_in_block-requires-clause-block
last_in_block-requires-clause-block c =
    let law = last_is (block_has c.args.self.now c.args.sort) _ _ c.in_ok-bit.ensures in
    omega (arith, law.0, law.1, c.requires.block)

pub returns : goal.returns
returns c = last_jump c.args.self.now _ _ _ _ c.requires.block c.in_ok-bit.ensures c.last_in_block.ensures
