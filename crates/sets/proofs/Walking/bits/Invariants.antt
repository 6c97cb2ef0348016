-- What the loop of `bits` keeps.
use Rattle.std.proofs.Common.{length}
use Rattle.sets.proofs.Packing.{Going}
use Rattle.sets.proofs.Walking.bits.Given as goal

abbrev pub invariant-loop-byte : goal.invariant-loop-byte
invariant-loop-byte g l = Going (g.Self.Walking.meant l.self) l.before l.byte-index l.passed (length l.fn.out) l.out
