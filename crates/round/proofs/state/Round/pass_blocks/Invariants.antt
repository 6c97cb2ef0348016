-- What the loop of `pass_blocks` keeps.
use Rattle.std.proofs.Common.{◌+◌, ◌-◌}
use Rattle.round.specs.Rounds.{free_of, class_of}
use Rattle.round.specs.Strides.{Paced}
use Rattle.round.proofs.state.Round.pass_blocks.Given as goal

abbrev pub invariant-loop-pace : goal.invariant-loop-pace
invariant-loop-pace g l =
    Paced (free_of l.self) (class_of l.self) l.self.state.place l.initial.out l.pace.bay l.pace.written l.pace.stretches l.pace.stance l.out

abbrev pub decreases-loop-pace : goal.decreases-loop-pace
decreases-loop-pace g l = l.w + 1 - l.pace.bay
