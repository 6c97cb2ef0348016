-- What the loop of `write_counts` keeps.
use Rattle.std.specs.List.{zip}
use Rattle.batches.specs.Pairs.{count_number}
use Rattle.batches.proofs.Answering.{Answering}
use Rattle.batches.proofs.counting.write_counts.Given as goal

abbrev pub invariant-loop-k : goal.invariant-loop-k
invariant-loop-k g l =
    Answering (count_number (g.F.Walking.meant l.free) (g.C.Walking.meant l.class)) (zip l.firsts l.lasts) l.initial.counts l.k l.counts
