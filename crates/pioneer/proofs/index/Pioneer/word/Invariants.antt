-- What the loop of `Pioneer::word` keeps.
use Rattle.std.proofs.Common.{◌≡◌}
use Rattle.pioneer.proofs.Unpacking.{Inside}
use Rattle.pioneer.proofs.index.Pioneer.word.Given as goal

abbrev pub invariant-loop-left : goal.invariant-loop-left
invariant-loop-left l = record {
  inside : Inside l.self l.base l.left l.word l.walk.sums.place l.walk.behind;
  rows : l.walk.sums.bytes.now ≡ l.self.sums.now;
}

abbrev pub decreases-loop-left : goal.decreases-loop-left
decreases-loop-left l = l.left
