-- What the loop of `byte_of` keeps.
use Rattle.std.proofs.Common.{◌≡◌, ℕ, ◌-◌, ◌^◌, ◌<◌, ◌≤◌, Bool}
use Rattle.sets.specs.Packing.{value_of}
use Rattle.sets.proofs.packed.byte_of.Given as goal

abbrev pub invariant-loop-j : goal.invariant-loop-j
invariant-loop-j g l =
    (l.j ≤ 8) × (l.byte < 2 ^ (8 - l.j))
    × ((f : ℕ → Bool) → ((j : ℕ) (b : Bool) → 1 ≤ j → j ≤ 8 → goal.F-post g l.row j b → b ≡ f j) → l.byte ≡ value_of f l.j (8 - l.j))
