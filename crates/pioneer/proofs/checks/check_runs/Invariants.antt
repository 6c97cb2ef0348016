-- What the loop of `check_runs` keeps: the runs so far have passed, and its ones are those behind them.
use Rattle.std.proofs.Common.{◌≡◌, ◌-◌}
use Rattle.bits.specs.Bits.{bit_at}
use Rattle.pioneer.proofs.Passing.{Passed}
use Rattle.pioneer.proofs.checks.check_runs.Given as goal

abbrev pub invariant-loop-start : goal.invariant-loop-start
invariant-loop-start l = record {
  passed : Passed l.last l.count (bit_at l.starts) (bit_at l.sums) l.firsts.place l.before l.behind;
  firsts : l.firsts.bytes.now ≡ l.starts;
  ends : (l.ends.bytes.now ≡ l.sums) × (l.ends.place ≡ l.before);
}

abbrev pub decreases-loop-start : goal.decreases-loop-start
decreases-loop-start l = l.last - l.firsts.place
