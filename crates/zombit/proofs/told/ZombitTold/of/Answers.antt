-- What is left to show of `ZombitTold::of`.
use Rattle.std.proofs.Common.{◌≡◌, Ok, ap, ◌∙◌}
use Rattle.faults.specs.Checks.{located}
use Rattle.faults.specs.declared.fault.Form.TheVariants.{Zombit}
use Rattle.zombit.specs.Blocks.{blocks_of, mixed_before}
use Rattle.zombit.specs.Filling.{uniform_bit}
use Rattle.zombit.specs.Measures.{told_by}
use Rattle.zombit.specs.Opening.{size_check}
use Rattle.zombit.proofs.Measured.{size_taken, told_is}
use Rattle.zombit.proofs.told.ZombitTold.of.Goals as goal

pub returns-clause-answer : goal.returns-clause-answer
returns-clause-answer g c =
    let β = c.args.size in
    let s = g.S.Walking.meant c.args.set.now in
    let taken : Ok tt ≡ located Zombit 0 (size_check β) = c.in_ok-at.ensures ∙ ap (located Zombit 0) c.check_size.ensures in
    let mixed = c.count_mixed.ensures.value ∙ ap (λ t. mixed_before (uniform_bit β t) (blocks_of c.last-last.result β)) c.decode-row.ensures.set in
    let told = told_is β s _ _ _ _ _ c.last-last.ensures c.count.ensures c.bytes_for-length.ensures mixed c.bytes_for.ensures in
    ap Ok told ∙ ap (λ v. told_by v β s) taken

pub returns-clause-law : goal.returns-clause-law
returns-clause-law g c =
    let β = c.args.size in
    let mixed = c.count_mixed.ensures.value ∙ ap (λ t. mixed_before (uniform_bit β t) (blocks_of c.last-last.result β)) c.decode-row.ensures.set in
    let told = told_is β (g.S.Walking.meant c.args.set.now) _ _ _ _ _ c.last-last.ensures c.count.ensures c.bytes_for-length.ensures mixed c.bytes_for.ensures in
    ((size_taken β (c.in_ok-at.ensures ∙ ap (located Zombit 0) c.check_size.ensures), tt), told)
