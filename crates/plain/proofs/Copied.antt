-- Bytes copied from some byte on, and zeros behind them, as the bits that they hold.
use Rattle.std.proofs.Common.{◌≡◌, ℕ, ◌+◌, ◌-◌, ◌*◌, ◌<◌, ◌≤◌, min, List, [], ◌++◌, length, get_or, take, drop, replicate, sym, ap, ◌∙◌, ⊎_elim, arith}
use Rattle.std.proofs.Math.Seq.{take-append_seam, get_or-append_right}
use lib.ListN.{get_or-eq_default}
use Rattle.std.proofs.lemmas.Bool.{cases_lt}
use Rattle.std.proofs.lemmas.List.{append-nil, drop_all, length-append, length-drop, length-take, length-replicate, get_or-drop, get_or-take, get_or-replicate, get_or_append_left}
use Rattle.sets.specs.Packing.{value_of, pack}
use Rattle.sets.proofs.Packing.{packed_whole, value_shift}
use Rattle.bits.specs.Bits.{bit_at}
use Rattle.bits.proofs.Bytes.{byte_held}
use Rattle.bits.proofs.Values.{value_only}

-- n bytes from byte k on, and m zeros
module _ (bytes front zeros : List ℕ) (size j k n m : ℕ) (from : k ≡ min j (length bytes)) (few : n ≡ min (length bytes - k) size) (rest : m ≡ size - n)
    (copied : front ≡ take n (take (length bytes - k) (drop k bytes))) (filled : zeros ≡ replicate m 0) where
  long : length front ≡ n
  long = ap length copied ∙ length-take n (take (length bytes - k) (drop k bytes)) ∙ omega (arith, length-take (length bytes - k) (drop k bytes), length-drop k bytes)

  whole : length (front ++ zeros) ≡ size
  whole = length-append front zeros ∙ omega (arith, long, ap length filled, length-replicate {A = ℕ} m 0)

  byte_at : (i : ℕ) → i < size → get_or (front ++ zeros) i 0 ≡ get_or bytes (j + i) 0
  byte_at i l = ⊎_elim
      (λ inside.
      let same : k + i ≡ j + i = omega arith in
      get_or_append_left front zeros 0 i (omega (arith, long)) ∙ ap (λ x. get_or x i 0) copied ∙ get_or-take n (take (length bytes - k) (drop k bytes)) i 0 inside
      ∙ get_or-take (length bytes - k) (drop k bytes) i 0 (omega arith)
      ∙ get_or-drop k bytes i 0 ∙ ap (λ (x : ℕ). get_or bytes x 0) same)
      (λ behind.
      get_or-append_right front zeros i 0 (omega (arith, long)) ∙ ap (λ x. get_or x (i - length front) 0) filled
      ∙ get_or-replicate m (i - length front) 0 0 (omega (arith, long))
      ∙ sym (get_or-eq_default bytes 0 (omega arith)))
      (cases_lt i n)

  pub holds : ((i : ℕ) → get_or bytes i 0 < 256) → front ++ zeros ≡ pack (8 * size) (λ i. bit_at bytes (8 * j + i))
  holds small =
      packed_whole (λ i. bit_at bytes (8 * j + i)) (front ++ zeros) (λ i l.
      let at : 8 * (j + i) ≡ 8 * j + 8 * i = omega arith in
      byte_at i (omega (arith, whole)) ∙ value_only (bit_at bytes) (8 * (j + i)) 8 _ (byte_held bytes (j + i) (small (j + i)))
      ∙ ap (λ (x : ℕ). value_of (bit_at bytes) x 8) at ∙ sym (value_shift (bit_at bytes) (8 * j) (8 * i) 8))
      ∙ ap (λ (x : ℕ). pack (8 * x) (λ i. bit_at bytes (8 * j + i))) whole

-- the front of a memory is written, and then all that lies behind
module _ (out front : List ℕ) (n : ℕ) (long : length front ≡ n) (room : n ≤ length out) where
  abbrev pub first : List ℕ
  first = front ++ drop n out

  pub left : length (take (length first - n) (drop n first)) ≡ length out - n
  left = length-take (length first - n) (drop n first) ∙ omega (arith, length-drop n first, length-append front (drop n out), length-drop n out)

  pub written : (zeros : List ℕ) → take n first ++ (zeros ++ drop (length first - n) (drop n first)) ≡ front ++ zeros
  written zeros =
      let start : take n first ≡ front = ap (λ (x : ℕ). take x first) (sym long) ∙ take-append_seam front (drop n out) in
      let end : drop (length first - n) (drop n first) ≡ [] = drop_all (length first - n) (drop n first) (omega (arith, length-drop n first)) in
      (λ i. start i ++ (zeros ++ end i)) ∙ ap (λ z. front ++ z) (append-nil zeros)
