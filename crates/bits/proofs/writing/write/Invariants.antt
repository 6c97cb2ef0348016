-- What the loop of `write` keeps.
use Rattle.std.proofs.Common.{◌≡◌, ℕ, ◌-◌, ◌≤◌, Bool}
use Rattle.sets.specs.Lists.{over}
use Rattle.sets.specs.Packing.{pack}
use Rattle.bits.specs.Rows.{first_bits}
use Rattle.bits.proofs.writing.write.Given as goal

abbrev pub invariant-loop-i : goal.invariant-loop-i
invariant-loop-i g l =
    (f : ℕ → Bool) → ((i : ℕ) (b : Bool) → 1 ≤ i → i ≤ l.n → goal.F-post g l.row i b → b ≡ f i) → l.bytes ≡ over (pack l.n (first_bits (l.i - 1) f)) l.fn.bytes
