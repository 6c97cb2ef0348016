-- What the loop of `Zombit::unpack` keeps.
use Rattle.std.proofs.Common.{◌≡◌, ◌+◌, ◌-◌, ◌*◌, ◌≤◌, length}
use Rattle.zombit.specs.Meant.{blocks, bits_before_block}
use Rattle.zombit.specs.Unpacking.{Unpacked}
use Rattle.zombit.proofs.index.Zombit.unpack.Given as goal

abbrev pub invariant-loop-reached : goal.invariant-loop-reached
invariant-loop-reached l = record {
  within : l.reached.block ≤ blocks l.self;
  bits : l.reached.bits ≡ bits_before_block l.self l.reached.block;
  low : l.before ≤ l.reached.block * l.self.blocks.size + l.self.blocks.size;
  long : length l.out ≡ length l.fn.out;
  wrote : Unpacked l.self l.before (l.reached.block * l.self.blocks.size) l.out;
}

abbrev pub decreases-loop-reached : goal.decreases-loop-reached
decreases-loop-reached l = l.past - l.reached.block
