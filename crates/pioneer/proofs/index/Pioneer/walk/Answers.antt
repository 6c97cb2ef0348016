-- What is left to show of `Pioneer::walk`.
use Rattle.std.proofs.Common.{◌∙◌, arith}
use Rattle.sets.proofs.Tests.{count_mono}
use Rattle.pioneer.specs.Found.{starts_of}
use Rattle.pioneer.proofs.Unpacking.{walked_none, walked_begun, sum_most}
use Rattle.pioneer.proofs.index.Pioneer.walk.Goals as goal

pub after-requires-clause-within : goal.after-requires-clause-within
after-requires-clause-within c =
    let p = c.args.self.now in
    let walked = walked_begun p c.args.i c.in-Some.run' c.requires c.in-Some.ensures in
    omega (arith, walked.0, sum_most p _ (count_mono (starts_of p) c.args.i p.last c.requires), p.whole.1)

pub returns-in-Some-clause-walked : goal.returns-in-Some-clause-walked
returns-in-Some-clause-walked c =
    let walked = walked_begun c.args.self.now c.args.i c.in-Some.run' c.requires c.in-Some.ensures in
    (c.after.ensures.place ∙ walked.0, c.behind.ensures ∙ walked.1)

pub returns-in-None-clause-walked : goal.returns-in-None-clause-walked
returns-in-None-clause-walked c =
    let walked = walked_none c.args.self.now c.args.i c.in-None.ensures in
    (c.after-in-None.ensures.place ∙ walked.0, walked.1)
