-- What the loop of `two_readers` keeps.
use Rattle.round.specs.Rounds.{free_of, class_of, SameSets}
use Rattle.replay.proofs.Playing.{Going}
use Rattle.replay.proofs.readers.two_readers.Given as goal

abbrev pub invariant-loop-exchange : goal.invariant-loop-exchange
invariant-loop-exchange g l =
    let r = l.initial.round in
    let late = l.initial.late_round in
    SameSets r l.round × SameSets late l.late_round
    × Going (free_of r) (class_of r) (λ x. x.first) r.state l.initial.exchanges l.initial.memory l.exchange-index l.at l.round.state l.memory l.exchanges
    × Going (free_of late) (class_of late) (λ x. x.second) late.state l.initial.exchanges l.initial.late_memory l.exchange-index l.late_at l.late_round.state l.late_memory l.exchanges
