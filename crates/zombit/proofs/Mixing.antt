-- Which bits of the mixed row are those of which block.
use Rattle.std.proofs.Common.{◌≡◌, ℕ, suc, ◌+◌, ◌-◌, ◌*◌, ◌/◌, ◌%◌, ◌<◌, ◌≤◌, Bool, false, not, List, length, Some, None, Option, sym, ap, ◌∙◌, ⊎_elim, mul-le-mul_right, mod-lt, arith}
use Rattle.std.proofs.lemmas.Bool.{not-true}
use Rattle.sets.specs.Search.{kth_to}
use Rattle.sets.specs.Sets.{is_member}
use Rattle.sets.proofs.Tests.{KthIs, kth_law, kth_by, count_here, count_agree}
use Rattle.zombit.specs.Blocks.{blocks_of, mixed_before, bits_before}
use Rattle.zombit.specs.Filling.{uniform_bit, mixed_bit, place_of}
use Rattle.zombit.specs.Lawful.{Place}
use Rattle.zombit.specs.Writing.{TellsBlock}
use Rattle.bits.specs.Rows.{TellsRow}
use Rattle.bits.specs.Bits.{bit_at}
use Rattle.zombit.proofs.Places.{place, block_at, offset_at}

-- a mixed block, by the number of those before it
block_kth : (U : ℕ → Bool) (n k : ℕ) → k < n → U (suc k) ≡ false → kth_to (λ j. not (U j)) (suc (mixed_before U k)) n ≡ Some (suc k)
block_kth U n k l mixed =
    let here = ap not mixed in
    sym (kth_by (λ j. not (U j)) (suc (mixed_before U k)) n (Some (suc k)) (omega arith, l, here, count_here (λ j. not (U j)) k here))

-- the bits of a mixed block in M are its places
pub mixed_tells : (β : ℕ) (s : List Bool) (k : ℕ) → k < blocks_of (length s) β → uniform_bit β s (suc k) ≡ false
    → TellsBlock β s k (bits_before β (uniform_bit β s) k) (mixed_bit β s)
unfolding mixed_bit
mixed_tells β s k l mixed j p =
    let U = uniform_bit β s in
    let n = blocks_of (length s) β in
    let t = mixed_before U k in
    let before : t * β + j - 1 ≡ t * β + (j - 1) = omega (arith, p.0) in
    let block : (t * β + j - 1) / β ≡ t = ap (λ (x : ℕ). x / β) before ∙ block_at β t (j - 1) (omega (arith, p.0, p.1)) in
    let offset : (t * β + j - 1) % β ≡ j - 1 = ap (λ (x : ℕ). x % β) before ∙ offset_at β t (j - 1) (omega (arith, p.0, p.1)) in
    let at : suc ((t * β + j - 1) % β) ≡ j = omega (arith, offset, p.0) in
    let same : suc k - 1 ≡ k = omega arith in
    (λ i. place_of β s (kth_to (λ m. not (U m)) (suc (block i)) n) (at i)) ∙ ap (λ r. place_of β s r j) (block_kth U n k l mixed)
    ∙ ap (λ (x : ℕ). is_member s (x * β + j)) same

-- bit q is one of those of a mixed block
pub record InMixed (β : ℕ) (U : ℕ → Bool) (n q : ℕ) : Type 0 where
  pub block : ℕ
  pub at : ℕ
  pub within : block < n
  pub mixed : U (suc block) ≡ false
  pub placed : Place β at
  pub is : q ≡ bits_before β U block + at

module _ (β : ℕ) (U : ℕ → Bool) (n q : ℕ) (some : 1 ≤ β) (first : 1 ≤ q) (last : q ≤ bits_before β U n) where
  abbrev before : ℕ
  before = (q - 1) / β

  lies : before * β + (q - 1) % β ≡ q - 1
  lies = place β (q - 1)

  found : (r : Option ℕ) → KthIs (λ j. not (U j)) (suc before) n r → InMixed β U n q
  found None law = absurd (⊎_elim
      (λ z. omega arith)
      (λ few.
      let fit : mixed_before U n * β ≤ before * β = mul-le-mul_right β (omega (arith, few)) in
      omega (arith, fit, lies))
      law)
  found (Some m) law =
      let same : suc (m - 1) ≡ m = omega (arith, law.0) in
      let here = ap (λ (x : ℕ). not (U x)) same ∙ law.2 in
      let count : mixed_before U (m - 1) ≡ before = omega (arith, count_here (λ j. not (U j)) (m - 1) here, ap (mixed_before U) same, law.3) in
      let bits = ap (λ (x : ℕ). x * β) count in
      let low = mod-lt (q - 1) some in
      record {
        block = m - 1;
        at = suc ((q - 1) % β);
        within = omega (arith, law.0, law.1);
        mixed = not-true _ here;
        placed = (omega arith, omega (arith, low));
        is = omega (arith, bits, lies, first);
      }

  pub in_mixed : InMixed β U n q
  in_mixed = found _ (kth_law (λ j. not (U j)) (suc before) n)

-- two rows that agree take as many bits
pub bits_agree : (β : ℕ) (U V : ℕ → Bool) (n : ℕ) → ((i : ℕ) → 1 ≤ i → i ≤ n → U i ≡ V i) → bits_before β U n ≡ bits_before β V n
bits_agree β U V n same = ap (λ (x : ℕ). x * β) (count_agree (λ j. not (U j)) (λ j. not (V j)) n (λ j l h. ap not (same j l h)))

-- a bit that was read of bytes that tell a row
pub read_bit : (U : ℕ → Bool) (us : List ℕ) (n k : ℕ) (b : Bool) → TellsRow n U us → k < n → b ≡ bit_at us (k + 1) → U (suc k) ≡ b
read_bit U us n k b tells l e =
    let at : suc k ≡ k + 1 = omega arith in
    ap U at ∙ sym (tells (k + 1) (omega arith) (omega arith)) ∙ sym e
