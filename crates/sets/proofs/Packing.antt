-- The digits of a number and the bytes of a bitvector, one after the other.
use Rattle.std.proofs.Common.{◌≡◌, ℕ, zero, suc, ◌+◌, ◌-◌, ◌*◌, ◌^◌, ◌<◌, ◌≤◌, min, Bool, true, false, ◌&&◌, leb, List, length, get_or, set, refl, sym, ap, ◌∙◌, ⊎_elim, arith, pow-suc, pow_mono, length-set}
use Rattle.std.proofs.lemmas.Bool.{cases_lt, le-leb}
use Rattle.std.proofs.lemmas.List.{ext_get_or, get_or-set_same, get_or-set_other}
use Rattle.std.proofs.lemmas.List.FromFn.{length-map-range_with_len, get_or-map-range_with_len}
use Rattle.sets.specs.Packing.{digit_of, value_of, bytes_for, pack, member_after}
use Rattle.sets.specs.Sets.{is_member, Sized}
use Rattle.sets.specs.declared.Sort.TheVariants.{Members}
use Rattle.sets.proofs.Bays.{is_beyond}

pub digit_small : (b : Bool) → digit_of b < 2
digit_small true = omega arith
digit_small false = omega arith

pub value_none : (f : ℕ → Bool) (p : ℕ) → value_of f p 0 ≡ 0
unfolding value_of
value_none f p = refl

-- one digit before the others
pub value_more : (f : ℕ → Bool) (p m : ℕ) → value_of f p (suc m) ≡ digit_of (f (suc p)) + 2 * value_of f (suc p) m
unfolding value_of
value_more f p m = refl

-- the digits from the k-th on, of which there are eight
pub value_eight : (f : ℕ → Bool) (k v d : ℕ) → 1 ≤ k → k ≤ 8 → v ≡ value_of f k (8 - k) → d ≡ digit_of (f (k - 1 + 1)) → 2 * v + d ≡ value_of f (k - 1) (8 - (k - 1))
value_eight f k v d low high e first =
    let more : 8 - (k - 1) ≡ suc (8 - k) = omega arith in
    let here : suc (k - 1) ≡ k = omega arith in
    let one : k - 1 + 1 ≡ k = omega arith in
    let digit : d ≡ digit_of (f k) = first ∙ ap (λ j. digit_of (f j)) one in
    let all : value_of f (k - 1) (suc (8 - k)) ≡ digit_of (f k) + 2 * value_of f k (8 - k) =
    value_more f (k - 1) (8 - k) ∙ ap (λ j. digit_of (f j) + 2 * value_of f j (8 - k)) here in
    omega (arith, e, digit, all, ap (λ m. value_of f (k - 1) m) more)

pub value_below : (k v d : ℕ) → 1 ≤ k → k ≤ 8 → v < 2 ^ (8 - k) → d < 2 → 2 * v + d < 2 ^ (8 - (k - 1))
value_below k v d low high small one =
    let more : 8 - (k - 1) ≡ suc (8 - k) = omega arith in
    omega (arith, small, one, pow-suc 2 (8 - k), ap (λ m. 2 ^ m) more)

pub value_fits : (k v : ℕ) → 1 ≤ k → k ≤ 8 → v < 2 ^ (8 - k) → 2 * v < 256
value_fits k v low high small =
    let most : 2 ^ (8 - (k - 1)) ≤ 2 ^ 8 = pow_mono (let less : 8 - (k - 1) ≤ 8 = omega arith in less) in
    omega (arith, value_below k v 0 low high small (omega arith), most)

pub value_agree : (f g : ℕ → Bool) (p m : ℕ) → ((i : ℕ) → p < i → i ≤ p + m → f i ≡ g i) → value_of f p m ≡ value_of g p m
unfolding value_of
value_agree f g p zero same = refl
value_agree f g p (suc m) same =
    let here = same (suc p) (omega arith) (omega arith) in
    let on = value_agree f g (suc p) m (λ i l h. same i (omega arith) (omega arith)) in
    λ i. digit_of (here i) + 2 * on i

pub value_shift : (f : ℕ → Bool) (p q m : ℕ) → value_of (λ j. f (p + j)) q m ≡ value_of f (p + q) m
unfolding value_of
value_shift f p q zero = refl
value_shift f p q (suc m) =
    let next : p + suc q ≡ suc (p + q) = omega arith in
    let on = value_shift f p (suc q) m in
    λ i. digit_of (f (next i)) + 2 * (on ∙ ap (λ x. value_of f x m) next) i

-- ---- the bytes of a bitvector

module _ (n : ℕ) (f : ℕ → Bool) where
  -- the bits, and zeros behind them
  abbrev pub bit : ℕ → Bool
  bit i = leb i n && f i

  pub pack_length : length (pack n f) ≡ bytes_for n
  unfolding pack
  pack_length = length-map-range_with_len _ 0 (bytes_for n)

  pub pack_byte : (j : ℕ) → j < bytes_for n → get_or (pack n f) j 0 ≡ value_of bit (8 * j) 8
  unfolding pack
  pack_byte j l = get_or-map-range_with_len _ 0 (bytes_for n) j j 0 l (omega arith)

-- bytes that are full of bits
pub packed_whole : (f : ℕ → Bool) (bytes : List ℕ) → ((j : ℕ) → j < length bytes → get_or bytes j 0 ≡ value_of f (8 * j) 8) → bytes ≡ pack (8 * length bytes) f
packed_whole f bytes each =
    let n = 8 * length bytes in
    let long : length bytes ≡ length (pack n f) = omega (arith, pack_length n f) in
    ext_get_or 0 bytes (pack n f) long (λ j l.
    each j l
    ∙ value_agree f (bit n f) (8 * j) 8 (λ i low high. sym (ap (λ b. b && f i) (le-leb i n (omega arith))))
    ∙ sym (pack_byte n f j (omega arith)))

-- ---- eight bays of a set after another

-- how many bays are passed, as far as 32 bits tell
abbrev pub passed_at : ℕ → ℕ → ℕ
passed_at before k = min (before + 8 * k) (2 ^ 32 - 1)

-- a bay that 32 bits do not tell of is none
pub bay_at : (s : List Bool) (before k j p : ℕ) → Sized s → 1 ≤ j → p ≡ passed_at before k → is_member s (min (p + j) (2 ^ 32 - 1)) ≡ member_after s before (8 * k + j)
bay_at s before k j p sized one e =
    ⊎_elim
    (λ near. let same : min (p + j) (2 ^ 32 - 1) ≡ before + (8 * k + j) = omega (arith, e, near) in ap (is_member s) same)
    (λ far. is_beyond s Members _ (omega (arith, sized.1, e, far)) ∙ sym (is_beyond s Members _ (omega (arith, sized.1, e, far))))
    (cases_lt (before + (8 * k + j)) (2 ^ 32))

-- the first k bytes are written
pub record Going (s : List Bool) (before k p size : ℕ) (bytes : List ℕ) : Type 0 where
  pub long : length bytes ≡ size
  pub passed : p ≡ passed_at before k
  pub wrote : (j : ℕ) → j < k → get_or bytes j 0 ≡ value_of (member_after s before) (8 * j) 8

pub going_on : (s : List Bool) (before k p size b : ℕ) (bytes : List ℕ) → k < size → b ≡ value_of (λ j. member_after s before (8 * k + j)) 0 8
    → Going s before k p size bytes → Going s before (k + 1) (min (p + 8) (2 ^ 32 - 1)) size (set bytes k b)
going_on s before k p size b bytes room e g = record {
  long = length-set bytes k b ∙ g.long;
  passed = omega (arith, g.passed);
  wrote = λ j l. ⊎_elim
      (λ less. get_or-set_other bytes k j b 0 (omega arith) ∙ g.wrote j less)
      (λ more.
      let same : j ≡ k = omega arith in
      let at : 8 * k + 0 ≡ 8 * j = omega arith in
      ap (λ x. get_or (set bytes k b) x 0) same ∙ get_or-set_same bytes k b 0 (omega (arith, g.long)) ∙ e
      ∙ value_shift (member_after s before) (8 * k) 0 8 ∙ ap (λ x. value_of (member_after s before) x 8) at)
      (cases_lt j k);
}
