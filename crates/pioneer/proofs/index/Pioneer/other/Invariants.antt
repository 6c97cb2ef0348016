-- What the loop of `Pioneer::other` keeps.
use Rattle.std.proofs.Common.{◌≡◌, ◌-◌, ◌<◌, ◌≤◌}
use Rattle.sets.specs.Search.{count_to}
use Rattle.pioneer.proofs.Searching.{other_of}
use Rattle.pioneer.proofs.index.Pioneer.other.Given as goal

abbrev pub invariant-loop-between : goal.invariant-loop-between
invariant-loop-between l = record {
  few : l.between.few ≡ count_to (other_of l.self) l.between.low;
  below : l.between.few < l.k;
  enough : l.between.enough ≡ count_to (other_of l.self) l.between.high;
  reach : l.k ≤ l.between.enough;
  last : l.between.high ≤ l.self.last;
}

abbrev pub decreases-loop-between : goal.decreases-loop-between
decreases-loop-between l = l.between.high - l.between.low
