-- What is left to show of `Zombit::first_from_block`.
use Rattle.std.proofs.Common.{◌≡◌, None, ◌∙◌, arith, rules}
use Rattle.zombit.specs.Meant.{block_has}
use Rattle.zombit.proofs.Found.{first_jump, first_end}
use Rattle.zombit.proofs.Skips.{first_is}
use Rattle.zombit.proofs.index.Zombit.first_from_block.Goals as goal

pub returns-in_err-bit : goal.returns-in_err-bit
returns-in_err-bit c =
    let none : c.from_residual.result ≡ None = search rules in
    none ∙ first_end c.args.self.now _ _ c.in_err-bit.ensures

pub overflow_sub-bit : goal.overflow_sub-bit
overflow_sub-bit c = let law = first_is (block_has c.args.self.now c.args.sort) _ _ _ c.in_ok-bit.ensures in omega (arith, law.0)

pub first_in_block-requires-clause-block : goal.first_in_block-requires-clause-block
first_in_block-requires-clause-block c =
    let law = first_is (block_has c.args.self.now c.args.sort) _ _ _ c.in_ok-bit.ensures in
    omega (arith, law.0, law.1)

pub returns : goal.returns
returns c = first_jump c.args.self.now _ _ _ _ c.in_ok-bit.ensures c.first_in_block.ensures
