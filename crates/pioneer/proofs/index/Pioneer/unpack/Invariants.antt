-- What the loop of `Pioneer::unpack` keeps.
use Rattle.std.proofs.Common.{◌≡◌, ◌*◌, ◌<◌, length}
use Rattle.pioneer.specs.Found.{WalkedTo}
use Rattle.pioneer.specs.Packed.{FrontHolds}
use Rattle.pioneer.specs.Runs.{set_of}
use Rattle.pioneer.proofs.Packed.{passed_words}
use Rattle.sets.specs.Packing.{member_after}
use Rattle.pioneer.proofs.index.Pioneer.unpack.Given as goal

abbrev pub invariant-loop-w : goal.invariant-loop-w
invariant-loop-w l = record {
  long : length l.out ≡ length l.fn.out;
  passed : l.base ≡ passed_words l.before l.w;
  rows : l.walk.sums.bytes.now ≡ l.self.sums.now;
  walked : l.base < l.self.last → WalkedTo l.self l.base l.walk.sums.place l.walk.behind;
  front : FrontHolds (member_after (set_of l.self.last l.self.count l.self.starts.now l.self.sums.now) l.before) (8 * l.w) l.out;
}
