-- Answers that are written one after the other.
use Rattle.std.proofs.Common.{◌≡◌, ℕ, List, map, length, take, drop}

-- the first n of what was asked are answered, and what lies behind is kept
pub record Answering {A : Type 0} (answer : A → ℕ) (asked : List A) (old : List ℕ) (n : ℕ) (memory : List ℕ) : Type 0 where
  pub size : length memory ≡ length old
  pub wrote : map answer (take n asked) ≡ take n memory
  pub kept : drop n memory ≡ drop n old
