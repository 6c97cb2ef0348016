-- A whole memory of bits, cut off and turned.
use Rattle.std.proofs.Common.{◌≡◌, ℕ, suc, ◌+◌, ◌-◌, ◌*◌, ◌/◌, ◌%◌, ◌^◌, ◌<◌, ◌≤◌, Bool, not, ◌&&◌, eqb, List, length, get_or, sym, ap, ◌∙◌, ⊎_elim, arith, mod-lt, pow_pos}
use Rattle.std.proofs.lemmas.Bool.{cases_lt, le-leb, lt-leb, and_left}
use Rattle.sets.specs.Packing.{pack}
use Rattle.bits.specs.Bits.{bit_at}
use Rattle.bits.specs.Words.{digit}
use Rattle.bits.specs.Rows.{first_bits}
use Rattle.bits.proofs.Digits.{high_zero, front_digit}
use Rattle.bits.proofs.Held.{miss, others_held}
use Rattle.bits.proofs.Bytes.{bit_as_digit, same_byte, byte_held, bit_past}
use Rattle.bits.proofs.Packing.{packs, packs_only, each_from}

-- the bytes are known by their bits
pub pack_known : (bytes : List ℕ) (n : ℕ) (f : ℕ → Bool) → n ≡ 8 * length bytes → ((j : ℕ) → get_or bytes j 0 < 256) → ((i : ℕ) → 1 ≤ i → i ≤ n → bit_at bytes i ≡ f i) → bytes ≡ pack n f
pack_known bytes n f long small told = packs_only n f bytes (omega arith, λ i l. bit_past bytes i (omega arith), each_from (λ b. b < 256) bytes (λ j l. small j), told)

pub pack_tells : (bytes : List ℕ) (n : ℕ) (f : ℕ → Bool) → bytes ≡ pack n f → (i : ℕ) → 1 ≤ i → i ≤ n → bit_at bytes i ≡ f i
pack_tells bytes n f e i one last = ap (λ bs. bit_at bs i) e ∙ (packs n f).3 i one last

module _ (before after : List ℕ) (i : ℕ) (one : 1 ≤ i) where
  pub cut_bit : (n : ℕ) → ((j : ℕ) → j < n / 8 → get_or after j 0 ≡ get_or before j 0) → get_or after (n / 8) 0 ≡ get_or before (n / 8) 0 % 2 ^ (n % 8)
      → ((j : ℕ) → n / 8 < j → get_or after j 0 ≡ 0) → bit_at after i ≡ first_bits n (bit_at before) i
  cut_bit n front edge behind =
      let j = (i - 1) / 8 in
      let s = (i - 1) % 8 in
      ⊎_elim
      (λ less. same_byte after before i one (front j less) ∙ ap (λ b. b && bit_at before i) (sym (le-leb i n (omega arith))))
      (λ more. ⊎_elim
      (λ past. bit_as_digit after i one ∙ ap (λ x. digit x s) (behind j past) ∙ miss _ (high_zero 0 0 s (omega arith) (omega arith)) ∙ sym (and_left _ _ (lt-leb i n (omega arith))))
      (λ upto.
      let same : j ≡ n / 8 = omega arith in
      bit_as_digit after i one ∙ ap (λ k. digit (get_or after k 0) s) same ∙ ap (λ x. digit x s) edge
      ∙ ⊎_elim
      (λ low.
      ap (λ d. eqb d 1) (front_digit (get_or before (n / 8) 0) (n % 8) s low) ∙ ap (λ k. digit (get_or before k 0) s) (sym same) ∙ sym (bit_as_digit before i one)
      ∙ ap (λ b. b && bit_at before i) (sym (le-leb i n (omega arith))))
      (λ high.
      miss _ (high_zero (get_or before (n / 8) 0 % 2 ^ (n % 8)) (n % 8) s (mod-lt _ (pow_pos (n % 8))) high) ∙ sym (and_left _ _ (lt-leb i n (omega arith))))
      (cases_lt s (n % 8)))
      (cases_lt (n / 8) j))
      (cases_lt j (n / 8))

  pub turned_bit : get_or before ((i - 1) / 8) 0 < 256 → get_or after ((i - 1) / 8) 0 ≡ 255 - get_or before ((i - 1) / 8) 0 → bit_at after i ≡ not (bit_at before i)
  turned_bit small turned =
      let j = (i - 1) / 8 in
      let s = (i - 1) % 8 in
      let same : suc (8 * j + s) ≡ i = omega arith in
      bit_as_digit after i one ∙ ap (λ x. digit x s) turned
      ∙ sym ((others_held (bit_at before) (8 * j) 8 _ (byte_held before j small)).place s (mod-lt (i - 1) (omega arith)))
      ∙ ap (λ k. not (bit_at before k)) same
