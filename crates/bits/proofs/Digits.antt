-- The binary digits of a number: the ones among them, the lowest one, its parts and its complement.
use Rattle.std.proofs.Common.{◌≡◌, ℕ, zero, suc, ◌+◌, ◌-◌, ◌*◌, ◌/◌, ◌%◌, ◌^◌, ◌<◌, ◌≤◌, sym, refl, ap, ◌∙◌, lt_of_lt_of_le, le_of_suc-le-suc, not-suc-le-zero, mod-lt, add_comm, pow-suc, arith, pow_pos, pow_mono, shr-shr}
use native.Mathlib.Nat.{div-eq_of_lt}
use lib.Arith.{digits_div}
use lib.Bits.{bit_and, and_mask}
use lib.Count.{ones, ones_cat, count_trailing_zeros, under}
use lib.Pow.{mod-pow-add, field, mod-mod-pow, ones_split, ones_lt, high}
use Rattle.std.proofs.lemmas.Nat.{one_shl}

-- ---- how many are 1

pub ones_of_zero : ones 0 ≡ 0
unfolding ones
ones_of_zero = refl

ones_small : (a : ℕ) → a < 2 → ones a ≡ a
unfolding ones
ones_small zero h = refl
ones_small (suc zero) h = refl
ones_small (suc (suc a)) h = absurd (not-suc-le-zero (le_of_suc-le-suc (le_of_suc-le-suc h)))

-- the digits below s + h, in two parts
pub ones_parts : (x s h : ℕ) → ones (x % 2 ^ (s + h)) ≡ ones (x % 2 ^ s) + ones (x / 2 ^ s % 2 ^ h)
ones_parts x s h =
    ap (λ (y : ℕ). ones (x % 2 ^ y)) (add_comm s h) ∙ ap ones (mod-pow-add x h s) ∙ ones_cat s (x / 2 ^ s % 2 ^ h) (x % 2 ^ s) (mod-lt x (pow_pos s))
    ∙ add_comm (ones (x / 2 ^ s % 2 ^ h)) (ones (x % 2 ^ s))

-- one more digit
pub ones_more : (x s : ℕ) → ones (x % 2 ^ suc s) ≡ ones (x % 2 ^ s) + x / 2 ^ s % 2
ones_more x s =
    let e : suc s ≡ s + 1 = omega arith in
    ap (λ (y : ℕ). ones (x % 2 ^ y)) e ∙ ones_parts x s 1 ∙ ap (λ (y : ℕ). ones (x % 2 ^ s) + y) (ones_small (x / 2 ^ s % 2) (mod-lt (x / 2 ^ s) (omega arith)))

-- ---- masks

-- `x & ((1 << k) - 1)` at m bits
pub masked : (x k m : ℕ) → k < m → bit_and x (1 * 2 ^ k % 2 ^ m - 1) ≡ x % 2 ^ k
masked x k m h = ap (λ (y : ℕ). bit_and x (y - 1)) (one_shl k m h) ∙ and_mask x k

-- `x & (MAX >> q)` at m bits
pub front_mask : (x m q n : ℕ) → n + q ≡ m → bit_and x ((2 ^ m - 1) / 2 ^ q) ≡ x % 2 ^ n
front_mask x m q n e =
    let mask : (2 ^ m - 1) / 2 ^ q ≡ 2 ^ n - 1 =
    ap (λ (y : ℕ). (2 ^ y - 1) / 2 ^ q) (sym e) ∙ ap (λ (y : ℕ). y / 2 ^ q) (ones_split n q) ∙ high (2 ^ n - 1) q (ones_lt q) in
    ap (bit_and x) mask ∙ and_mask x n

-- ---- a digit of a part, of a sum and of the complement

pub high_zero : (x m s : ℕ) → x < 2 ^ m → m ≤ s → x / 2 ^ s % 2 ≡ 0
high_zero x m s h l = ap (λ (y : ℕ). y % 2) (div-eq_of_lt (lt_of_lt_of_le h (pow_mono l)))

pub front_digit : (x k s : ℕ) → s < k → x % 2 ^ k / 2 ^ s % 2 ≡ x / 2 ^ s % 2
front_digit x k s l =
    let e : k ≡ k - (1 + s) + (1 + s) = omega arith in
    sym (field (x % 2 ^ k) 1 s)
    ∙ ap (λ (y : ℕ). y / 2 ^ s) (ap (λ (y : ℕ). x % 2 ^ y % 2 ^ (1 + s)) e ∙ mod-mod-pow x (k - (1 + s)) (1 + s))
    ∙ field x 1 s

pub low_digit : (a b s : ℕ) → s < 8 → b < 256 → (a * 256 + b) / 2 ^ s % 2 ≡ b / 2 ^ s % 2
low_digit a b s h l =
    let e : (a * 256 + b) % 256 ≡ b = omega arith in
    sym (front_digit (a * 256 + b) 8 s h) ∙ ap (λ (y : ℕ). y / 2 ^ s % 2) e

pub high_digit : (a b s : ℕ) → b < 256 → (a * 256 + b) / 2 ^ (8 + s) % 2 ≡ a / 2 ^ s % 2
high_digit a b s l = ap (λ (y : ℕ). y % 2) (sym (shr-shr (a * 256 + b) 8 s) ∙ ap (λ (y : ℕ). y / 2 ^ s) (digits_div a l))

pub half_digit : (x s : ℕ) → x / 2 / 2 ^ s % 2 ≡ x / 2 ^ suc s % 2
half_digit x s = let e : 1 + s ≡ suc s = omega arith in ap (λ (y : ℕ). y % 2) (shr-shr x 1 s ∙ ap (λ (y : ℕ). x / 2 ^ y) e)

pub not_digit : (m x s : ℕ) → x < 2 ^ m → s < m → (2 ^ m - 1 - x) / 2 ^ s % 2 ≡ 1 - x / 2 ^ s % 2
not_digit zero x s h l = omega arith
not_digit (suc m) x zero h l = omega (arith, pow-suc 2 m)
not_digit (suc m) x (suc s) h l =
    let half : x / 2 < 2 ^ m = omega (arith, pow-suc 2 m) in
    let e : (2 ^ suc m - 1 - x) / 2 ≡ 2 ^ m - 1 - x / 2 = omega (arith, pow-suc 2 m) in
    sym (half_digit (2 ^ suc m - 1 - x) s) ∙ ap (λ (y : ℕ). y / 2 ^ s % 2) e ∙ not_digit m (x / 2) s half (le_of_suc-le-suc l)
    ∙ ap (λ (y : ℕ). 1 - y) (half_digit x s)

-- ---- the lowest one

pub trailing_low : (m x s : ℕ) → s < count_trailing_zeros m x → x / 2 ^ s % 2 ≡ 0
unfolding count_trailing_zeros
trailing_low zero x s h = absurd (not-suc-le-zero h)
trailing_low (suc m) x s h = go (λ s h. trailing_low m (x / 2) s h) (x % 2) refl s h
  where
    go : ((s : ℕ) → s < count_trailing_zeros m (x / 2) → x / 2 / 2 ^ s % 2 ≡ 0) → (d : ℕ) → x % 2 ≡ d → (s : ℕ) → s < under d (count_trailing_zeros m (x / 2)) → x / 2 ^ s % 2 ≡ 0
    go ih zero e zero h = omega (arith, e)
    go ih zero e (suc s) h = sym (half_digit x s) ∙ ih s (le_of_suc-le-suc h)
    go ih (suc d) e s h = absurd (not-suc-le-zero h)

pub trailing_hit : (m x : ℕ) → count_trailing_zeros m x < m → x / 2 ^ count_trailing_zeros m x % 2 ≡ 1
unfolding count_trailing_zeros
trailing_hit zero x h = absurd (not-suc-le-zero h)
trailing_hit (suc m) x h = go (λ h. trailing_hit m (x / 2) h) (x % 2) refl h
  where
    go : (count_trailing_zeros m (x / 2) < m → x / 2 / 2 ^ count_trailing_zeros m (x / 2) % 2 ≡ 1) → (d : ℕ) → x % 2 ≡ d → under d (count_trailing_zeros m (x / 2)) < suc m → x / 2 ^ under d (count_trailing_zeros m (x / 2)) % 2 ≡ 1
    go ih zero e h = sym (half_digit x (count_trailing_zeros m (x / 2))) ∙ ih (le_of_suc-le-suc h)
    go ih (suc d) e h = omega (arith, e)

pub trailing_some : (m x : ℕ) → 0 < x → x < 2 ^ m → count_trailing_zeros m x < m
unfolding count_trailing_zeros
trailing_some zero x p h = omega arith
trailing_some (suc m) x p h = go (λ q l. trailing_some m (x / 2) q l) (x % 2) refl
  where
    go : (0 < x / 2 → x / 2 < 2 ^ m → count_trailing_zeros m (x / 2) < m) → (d : ℕ) → x % 2 ≡ d → under d (count_trailing_zeros m (x / 2)) < suc m
    go ih zero e = let q : 0 < x / 2 = omega (arith, e) in let l : x / 2 < 2 ^ m = omega (arith, pow-suc 2 m) in omega (arith, ih q l)
    go ih (suc d) e = omega arith
