-- What is left to show of `fill`.
use Rattle.std.proofs.Common.{rules}
use Rattle.std.proofs.lemmas.List.{places}
use Rattle.bits.proofs.Adding.{filled_adds}
use Rattle.bits.proofs.laying.fill.Goals as goal

pub returns-clause-ones : goal.returns-clause-ones
returns-clause-ones c =
    let h = c.fill.ensures.after (λ y e. e) in
    filled_adds c.args.a c.args.b c.args.bytes.now _ (λ j l. search (rules, places)) (λ j l. search (rules, places)) (λ j l less. rw h (search (rules, places)))
