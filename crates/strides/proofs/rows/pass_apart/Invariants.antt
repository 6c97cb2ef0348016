-- What the loop of `pass_apart` keeps.
use Rattle.std.proofs.Common.{◌≡◌, ℕ, ◌+◌, ◌-◌, ◌%◌, ◌<◌, ◌≤◌, List, length}
use Rattle.bits.specs.Bits.{bit_at}
use Rattle.strides.specs.declared.standing.Stance.{Stance}
use Rattle.strides.specs.Passage.{Passage}
use Rattle.strides.proofs.rows.pass_apart.Given as goal

abbrev pub invariant-loop-passed : goal.invariant-loop-passed
invariant-loop-passed l = record {
  going : (s : Stance) (first : ℕ) (old out : List ℕ) → 64 + l.initial.passed.written ≤ length out → Passage (bit_at l.free) (bit_at l.class) s first l.left old l.initial.passed out
      → Passage (bit_at l.free) (bit_at l.class) s first l.left old l.passed out;
  written : l.passed.written ≡ l.initial.passed.written;
  on : l.initial.passed.bits ≤ l.passed.bits;
  more : l.passed.bits < l.left;
  words : l.passed.bits % 64 ≡ 0;
  starts : l.passed.starts ≤ l.passed.bits;
}

abbrev pub decreases-loop-passed : goal.decreases-loop-passed
decreases-loop-passed l = l.left - l.passed.bits
