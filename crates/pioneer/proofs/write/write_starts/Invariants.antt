-- What the loop of `write_starts` keeps.
use Rattle.std.proofs.Common.{◌≡◌, ◌*◌, List, Bool, length}
use Rattle.sets.specs.Packing.{digit_of}
use Rattle.sets.specs.Sets.{is_member}
use Rattle.pioneer.specs.Filling.{begins}
use Rattle.pioneer.specs.Packed.{FrontHolds}
use Rattle.pioneer.specs.Written.{TellsBays}
use Rattle.pioneer.proofs.write.write_starts.Given as goal

abbrev pub invariant-loop-w : goal.invariant-loop-w
invariant-loop-w l = record {
  long : length l.front ≡ length l.row;
  carry : (s : List Bool) → TellsBays s l.row → l.carry ≡ digit_of (is_member s (64 * l.w));
  front : (s : List Bool) → TellsBays s l.row → FrontHolds (begins s) (8 * l.w) l.front;
}
