-- What is left to show of `fill_zombit`.
use Rattle.std.proofs.Common.{arith}
use Rattle.std.proofs.lemmas.Grind.{common_steps}
use Rattle.faults.specs.declared.fault.Form.TheVariants.{Zombit}
use Rattle.zombit.specs.Filling.{uniform_of, marked_of, mixed_of}
use Rattle.forms.proofs.Cuts.{wrote_three}
use Rattle.forms.proofs.Rooms.{rooms_three}
use Rattle.forms.proofs.laying.fill_zombit.Goals as goal

pub returns-in-Ok-clause-answer : goal.returns-in-Ok-clause-answer
returns-in-Ok-clause-answer g c =
    let s = g.S.Walking.meant c.args.set.now in
    let β = c.args.size in
    grind (arith, common_steps, rooms_three Zombit (uniform_of β s) (marked_of β s) (mixed_of β s) c.args.bytes.now)

pub returns-in-Ok-clause-writes : goal.returns-in-Ok-clause-writes
returns-in-Ok-clause-writes g c =
    let s = g.S.Walking.meant c.args.set.now in
    let β = c.args.size in
    grind (arith, common_steps, wrote_three c.fill-filled.result.1 (uniform_of β s) (marked_of β s) (mixed_of β s) c.args.bytes.now)
