-- What the loop of `write_nearest` keeps.
use Rattle.batches.specs.Pairs.{nearest_number}
use Rattle.batches.proofs.Answering.{Answering}
use Rattle.batches.proofs.nearest_bays.write_nearest.Given as goal

abbrev pub invariant-loop-k : goal.invariant-loop-k
invariant-loop-k g l =
    Answering (nearest_number (g.F.Walking.meant l.free) (g.C.Walking.meant l.class)) l.places l.initial.answers l.k l.answers
