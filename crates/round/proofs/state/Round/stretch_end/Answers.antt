-- What is left to show of `stretch_end`.
use Rattle.std.proofs.Common.{arith}
use Rattle.sets.specs.Sets.{next_of}
use Rattle.sets.specs.declared.Sort.TheVariants.{Members}
use Rattle.round.specs.Machine.{end, larger}
use Rattle.round.specs.Rounds.{free_of, class_of}
use Rattle.round.proofs.Walks.{stop_end}
use Rattle.round.proofs.state.Round.stretch_end.Goals as goal

pub returns-then-in_free-w : goal.returns-then-in_free-w
unfolding larger
returns-then-in_free-w g c =
    let self = c.args.self.now in
    let in_free = rw c.requires at c.next_within-in_free.ensures in
    let in_class = stop_end (end (free_of self) (class_of self)) (next_of (class_of self) Members c.args.p) in
    omega (arith, in_free, in_class, c.requires, c.if-in_free-w.true)

pub returns : goal.returns
unfolding larger
returns g c =
    let in_free = rw c.requires at c.next_within-in_free.ensures in
    let in_class = rw c.requires at c.next_within-in_class.ensures in
    omega (arith, in_free, in_class)
