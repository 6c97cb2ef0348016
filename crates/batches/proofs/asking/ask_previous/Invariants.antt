-- What the loop of `ask_previous` keeps.
use Rattle.batches.specs.Questions.{answer_of}
use Rattle.batches.specs.declared.question.Question.TheVariants.{Previous}
use Rattle.batches.proofs.Answering.{Answering}
use Rattle.batches.proofs.asking.ask_previous.Given as goal

abbrev pub invariant-loop-k : goal.invariant-loop-k
invariant-loop-k g l = Answering (answer_of (g.S.Walking.meant l.set) Previous l.sort) l.places l.initial.answers l.k l.answers
