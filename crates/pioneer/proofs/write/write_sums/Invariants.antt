-- What the loop of `write_sums` keeps.
use Rattle.std.proofs.Common.{◌≡◌, ◌*◌, List, Bool, length}
use Rattle.bits.specs.Bits.{bit_at}
use Rattle.sets.specs.Search.{count_to}
use Rattle.pioneer.specs.Written.{TellsBays, SumsTo}
use Rattle.pioneer.proofs.write.write_sums.Given as goal

abbrev pub invariant-loop-w : goal.invariant-loop-w
invariant-loop-w l = record {
  long : length l.sums ≡ length l.fn.sums;
  counted : l.before ≡ count_to (bit_at l.row) (64 * l.w);
  written : (s : List Bool) → TellsBays s l.row → SumsTo s l.fn.sums (64 * l.w) l.sums;
}
