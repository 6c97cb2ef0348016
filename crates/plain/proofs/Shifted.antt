-- Bits copied from any on, and zeros behind them.
use Rattle.std.proofs.Common.{◌≡◌, ℕ, ◌+◌, ◌-◌, ◌*◌, ◌≤◌, min, false, ◌&&◌, ◌||◌, List, length, sym, ap, ◌∙◌, ⊎_elim, arith}
use Rattle.std.proofs.Math.Bool.{or-false}
use Rattle.std.proofs.lemmas.Bool.{cases_lt, le-leb, lt-leb, lt-ltb, and_left, and_right, and_from}
use Rattle.sets.specs.Packing.{pack}
use Rattle.bits.specs.Bits.{bit_at}
use Rattle.bits.specs.Rows.{moved}
use Rattle.bits.proofs.Bytes.{bit_past}
use Rattle.bits.proofs.Packing.{pack_same}

module _ (bytes : List ℕ) (size before from count : ℕ) (few : length bytes ≤ 8192) (start : from ≡ min before (8 * length bytes))
    (room : count ≡ min (8 * min size 8192) (8 * length bytes - from)) where
  bit_moved : (i : ℕ) → 1 ≤ i → i ≤ 8 * size → (moved 0 count (bit_at bytes) from i || false) ≡ bit_at bytes (before + i)
  bit_moved i one last =
      or-false (moved 0 count (bit_at bytes) from i)
      ∙ ⊎_elim
      (λ past. and_left _ _ (and_right _ _ (lt-leb i (0 + count) past)) ∙ sym (bit_past bytes (before + i) (omega arith)))
      (λ within.
      let same : from + (i - 0) ≡ before + i = omega arith in
      let inside = and_from _ _ (lt-ltb 0 i one) (le-leb i (0 + count) within) in
      ap (λ b. b && bit_at bytes (from + (i - 0))) inside ∙ ap (bit_at bytes) same)
      (cases_lt (0 + count) i)

  pub all_moved : pack (8 * size) (λ i. moved 0 count (bit_at bytes) from i || false) ≡ pack (8 * size) (λ i. bit_at bytes (before + i))
  all_moved = pack_same (8 * size) _ _ bit_moved
