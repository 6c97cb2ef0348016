-- What the loop of `Round::fill` keeps.
use Rattle.round.specs.Rounds.{free_of, class_of, SameSets}
use Rattle.round.specs.Strides.{Going}
use Rattle.round.proofs.state.Round.fill.Given as goal

abbrev pub invariant-loop-slot : goal.invariant-loop-slot
invariant-loop-slot g l =
    let r = l.initial.self in
    SameSets r l.self × Going (free_of r) (class_of r) r.state l.initial.out l.slot-index l.self.state l.out
