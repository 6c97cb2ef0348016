-- What is left to show of `check`.
use Rattle.std.proofs.Common.{sym, subst, ◌∙◌}
use Rattle.std.proofs.lemmas.Bool.{cond-true, eq-eqb}
use Rattle.faults.specs.Checks.{Check}
use Rattle.bits.specs.Checks.{CheckedIs}
use Rattle.bits.proofs.Checked.{bits_law}
use Rattle.bits.proofs.checks.check.Goals as goal

pub returns-clause-law : goal.returns-clause-law
returns-clause-law c =
    let n = c.args.n in
    let bs = c.args.bytes.now in
    subst (λ (r : Check). CheckedIs n bs r) (cond-true _ _ _ (eq-eqb _ _ c.in_ok-check_length.ensures.law) ∙ sym c.check_spare.ensures.answer) (bits_law n bs)
