-- What the loop of `take_rows` keeps.
use Rattle.round.specs.Rounds.{free_of, class_of, SameSets}
use Rattle.listing.proofs.Playing.{Going}
use Rattle.listing.proofs.rows.take_rows.Given as goal

abbrev pub invariant-loop-n : goal.invariant-loop-n
invariant-loop-n g l =
    let r = l.initial.round in
    SameSets r l.round × Going (free_of r) (class_of r) r.state l.initial.rows l.n l.round.state l.rows
