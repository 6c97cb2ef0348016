-- What is left to show of `write_draft`.
use Rattle.std.proofs.Common.{arith}
use Rattle.std.proofs.lemmas.Grind.{common_steps}
use Rattle.drafts.proofs.Written.{plain_text, list_text, zombit_text, pioneer_text}
use Rattle.drafts.proofs.text.write_draft.Goals as goal

pub returns-in_ok-write-in-Plain : goal.returns-in_ok-write-in-Plain
returns-in_ok-write-in-Plain c =
    let given = c.in-Plain.ensures in
    grind (arith, common_steps, plain_text c.args.draft.now c.in-Plain.source given.form given.numbers given.parts)

pub returns-in_ok-write-in-List : goal.returns-in_ok-write-in-List
returns-in_ok-write-in-List c =
    let given = c.in-List.ensures in
    grind (arith, common_steps, list_text c.args.draft.now c.in-List.source given.form given.numbers given.parts)

pub returns-in_ok-write_part-in-Zombit-2 : goal.returns-in_ok-write_part-in-Zombit-2
returns-in_ok-write_part-in-Zombit-2 c =
    let given = c.in-Zombit.ensures in
    grind (arith, common_steps, zombit_text c.args.draft.now c.in-Zombit.source given.form given.numbers given.parts)

pub returns-in_ok-write_part-in-Pioneer : goal.returns-in_ok-write_part-in-Pioneer
returns-in_ok-write_part-in-Pioneer c =
    let given = c.in-Pioneer.ensures in
    grind (arith, common_steps, pioneer_text c.args.draft.now c.in-Pioneer.source given.form given.numbers given.parts)
