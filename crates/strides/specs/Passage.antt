-- How far two rows are passed.
use Rattle.std.specs.Prelude.{◌≡◌, ℕ, ◌+◌, ◌%◌, ◌<◌, ◌≤◌, min, Bool, List, length}
use Rattle.sets.specs.Lists.{over}
use Rattle.sets.specs.Search.{count_to}
use Rattle.strides.specs.declared.standing.Stance.{Stance}
use Rattle.strides.specs.declared.passed.Passed.{Passed}
use Rattle.strides.specs.Strides.{numbered, both, begins, after}

-- so many bits are passed
pub record Passage (f c : ℕ → Bool) (s : Stance) (first left : ℕ) (out₀ : List ℕ) (w : Passed) (out : List ℕ) : Type 0 where
  pub stance : w.stance ≡ after f c s w.bits
  pub writes : out ≡ over (numbered (both f c) first w.bits) out₀
  pub written : w.written ≡ length (numbered (both f c) first w.bits)
  pub starts : w.starts ≡ count_to (begins f c s) (min w.bits left)
  pub size : length out ≡ length out₀
  pub fits : w.written ≤ length out₀
  pub room : (j : ℕ) → j < w.bits → length (numbered (both f c) first j) < length out₀
  pub most : w.bits < left + 64
  pub words : w.bits % 64 ≡ 0
