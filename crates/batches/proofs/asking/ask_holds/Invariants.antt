-- What the loop of `ask_holds` keeps.
use Rattle.sets.specs.declared.Sort.TheVariants.{Members}
use Rattle.batches.specs.Questions.{answer_of}
use Rattle.batches.specs.declared.question.Question.TheVariants.{Holds}
use Rattle.batches.proofs.Answering.{Answering}
use Rattle.batches.proofs.asking.ask_holds.Given as goal

abbrev pub invariant-loop-k : goal.invariant-loop-k
invariant-loop-k g l = Answering (answer_of (g.S.Walking.meant l.set) Holds Members) l.places l.initial.answers l.k l.answers
