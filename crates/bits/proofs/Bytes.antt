-- The numbers that hold the bits of some bytes.
use Rattle.std.proofs.Common.{◌≡◌, ℕ, zero, suc, ◌+◌, ◌-◌, ◌*◌, ◌/◌, ◌%◌, ◌^◌, ◌<◌, ◌≤◌, false, eqb, List, length, get_or, sym, refl, ap, ◌∙◌, subst, ⊎_elim, mod-lt, add-zero, arith, pow-add}
use lib.ListN.{get_or-eq_default}
use Rattle.std.proofs.lemmas.Bool.{cases_lt}
use Rattle.bits.specs.Bits.{bit_at}
use Rattle.bits.specs.Words.{digit, Holds}
use Rattle.bits.proofs.Digits.{high_zero, low_digit, high_digit}
use Rattle.bits.proofs.Held.{miss}

pub bit_at_lem : (bs : List ℕ) (j s : ℕ) → s < 8 → bit_at bs (suc (8 * j + s)) ≡ digit (get_or bs j 0) s
unfolding bit_at
bit_at_lem bs j s l =
    let d : (suc (8 * j + s) - 1) / 8 ≡ j = omega arith in
    let m : (suc (8 * j + s) - 1) % 8 ≡ s = omega arith in
    rw (d, m)

pub bit_as_digit : (bs : List ℕ) (i : ℕ) → 1 ≤ i → bit_at bs i ≡ digit (get_or bs ((i - 1) / 8) 0) ((i - 1) % 8)
bit_as_digit bs i one =
    let same : i ≡ suc (8 * ((i - 1) / 8) + (i - 1) % 8) = omega arith in
    ap (bit_at bs) same ∙ bit_at_lem bs ((i - 1) / 8) ((i - 1) % 8) (mod-lt (i - 1) (omega arith))

pub same_byte : (bs cs : List ℕ) (i : ℕ) → 1 ≤ i → get_or bs ((i - 1) / 8) 0 ≡ get_or cs ((i - 1) / 8) 0 → bit_at bs i ≡ bit_at cs i
same_byte bs cs i one e = bit_as_digit bs i one ∙ ap (λ x. digit x ((i - 1) % 8)) e ∙ sym (bit_as_digit cs i one)

pub bit_past : (bs : List ℕ) (i : ℕ) → 8 * length bs < i → bit_at bs i ≡ false
unfolding bit_at
bit_past bs i l =
    let z : get_or bs ((i - 1) / 8) 0 ≡ 0 = get_or-eq_default bs 0 (omega arith) in
    miss _ (ap (λ (y : ℕ). y / 2 ^ ((i - 1) % 8) % 2) z ∙ high_zero 0 0 _ (omega arith) (omega arith))

pub byte_held : (bs : List ℕ) (j : ℕ) → get_or bs j 0 < 256 → Holds (bit_at bs) (8 * j) 8 (get_or bs j 0)
byte_held bs j small = record { small = small; place = λ s l. bit_at_lem bs j s l }

pub none_held : (bs : List ℕ) (p : ℕ) → Holds (bit_at bs) p 0 0
none_held bs p = record { small = omega arith; place = λ s l. absurd (omega arith) }

-- one byte before those that are held
pub byte_before : (bs : List ℕ) (j m a : ℕ) → get_or bs j 0 < 256 → Holds (bit_at bs) (8 * suc j) m a → Holds (bit_at bs) (8 * j) (8 + m) (a * 256 + get_or bs j 0)
byte_before bs j m a small h = record {
  small = omega (arith, h.small, pow-add 2 8 m);
  place = λ s l. ⊎_elim
      (λ less. bit_at_lem bs j s less ∙ ap (λ d. eqb d 1) (sym (low_digit a (get_or bs j 0) s less small)))
      (λ more.
      let e : suc (8 * j + s) ≡ suc (8 * suc j + (s - 8)) = omega arith in
      let same : 8 + (s - 8) ≡ s = omega arith in
      ap (bit_at bs) e ∙ h.place (s - 8) (omega arith)
      ∙ ap (λ d. eqb d 1) (sym (high_digit a (get_or bs j 0) (s - 8) small) ∙ ap (λ (y : ℕ). (a * 256 + get_or bs j 0) / 2 ^ y % 2) same))
      (cases_lt s 8);
}

pub bytes_before : (bs : List ℕ) (k n m w b : ℕ) → 1 ≤ k → get_or bs (k - 1) 0 < 256 → b ≡ get_or bs (k - 1) 0 → m ≡ n + 1 → Holds (bit_at bs) (8 * k) (8 * n) w
    → Holds (bit_at bs) (8 * (k - 1)) (8 * m) (256 * w + b)
bytes_before bs k n m w b one small same more h =
    let at : k ≡ suc (k - 1) = omega arith in
    let long : 8 + 8 * n ≡ 8 * m = omega arith in
    let value : w * 256 + get_or bs (k - 1) 0 ≡ 256 * w + b = omega arith in
    subst (λ (x : ℕ). Holds (bit_at bs) (8 * (k - 1)) (8 * m) x) value
    (subst (λ (y : ℕ). Holds (bit_at bs) (8 * (k - 1)) y (w * 256 + get_or bs (k - 1) 0)) long
    (byte_before bs (k - 1) (8 * n) w small (subst (λ (y : ℕ). Holds (bit_at bs) (8 * y) (8 * n) w) at h)))

-- the n bytes from j + k on as one number, the lowest first
unfoldable pub low_first : List ℕ → ℕ → ℕ → ℕ → ℕ
low_first bs j k zero = 0
low_first bs j k (suc n) = low_first bs j (suc k) n * 256 + get_or bs (j + k) 0

low_held : (bs : List ℕ) (j k n : ℕ) → ((i : ℕ) → get_or bs i 0 < 256) → Holds (bit_at bs) (8 * (j + k)) (8 * n) (low_first bs j k n)
unfolding low_first
low_held bs j k zero small = none_held bs (8 * (j + k))
low_held bs j k (suc n) small =
    let e : 8 + 8 * n ≡ 8 * suc n = omega arith in
    let same : j + suc k ≡ suc (j + k) = omega arith in
    let h = subst (λ (y : ℕ). Holds (bit_at bs) (8 * y) (8 * n) (low_first bs j (suc k) n)) same (low_held bs j (suc k) n small) in
    subst (λ (y : ℕ). Holds (bit_at bs) (8 * (j + k)) y (low_first bs j (suc k) n * 256 + get_or bs (j + k) 0)) e (byte_before bs (j + k) (8 * n) _ (small (j + k)) h)

low_same : (bs es : List ℕ) (j k n : ℕ) → ((i : ℕ) → k ≤ i → i < k + n → get_or es (0 + i) 0 ≡ get_or bs (j + i) 0) → low_first bs j k n ≡ low_first es 0 k n
unfolding low_first
low_same bs es j k zero h = refl
low_same bs es j k (suc n) h = omega (arith, low_same bs es j (suc k) n (λ i l b. h i (omega arith) (omega arith)), h k (omega arith) (omega arith))

-- eight bytes that are those from j on, as one number
pub eight_held : (bs es : List ℕ) (j x : ℕ) → ((i : ℕ) → get_or bs i 0 < 256) → ((k : ℕ) → k < 8 → get_or es k 0 ≡ get_or bs (j + k) 0) → low_first es 0 0 8 ≡ x → Holds (bit_at bs) (8 * j) 64 x
eight_held bs es j x small same e =
    let at : (i : ℕ) → get_or es (0 + i) 0 ≡ get_or es i 0 = λ i. let z : 0 + i ≡ i = omega arith in ap (λ (y : ℕ). get_or es y 0) z in
    subst (λ (y : ℕ). Holds (bit_at bs) (8 * j) 64 y) (low_same bs es j 0 8 (λ i l h. at i ∙ same i (omega arith)) ∙ e) (simp add-zero at (low_held bs j 0 8 small))
