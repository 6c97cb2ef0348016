-- The number whose binary digits tell which numbers pass a test.
use Rattle.std.proofs.Common.{◌≡◌, ℕ, zero, suc, ◌+◌, ◌*◌, ◌/◌, ◌%◌, ◌^◌, ◌<◌, ◌≤◌, max, Bool, true, false, ◌||◌, eqb, sym, refl, ap, ◌∙◌, ⊎_elim, arith, mod-lt, pow-suc, pow_pos, bit_or, div-one}
use Rattle.std.proofs.lemmas.Bool.{cases_eq, eq-eqb, ne_eqb, or_left}
use Rattle.std.proofs.lemmas.Nat.{or_lt, pow_below}
use Rattle.std.proofs.lemmas.Nat.Bits.{bit_at_or, bit_at-pow_same, bit_at-pow_other}
use Rattle.bits.specs.Words.{digit, Holds}
use Rattle.sets.specs.Packing.{digit_of, value_of}
use Rattle.bits.proofs.Digits.{high_zero, half_digit}
use Rattle.bits.proofs.Held.{miss}

digit_small : (b : Bool) → digit_of b < 2
digit_small true = omega arith
digit_small false = omega arith

digit_back : (b : Bool) → eqb (digit_of b) 1 ≡ b
digit_back true = refl
digit_back false = refl

digit_same : (d : ℕ) → d < 2 → d ≡ digit_of (eqb d 1)
digit_same zero l = refl
digit_same (suc zero) l = refl
digit_same (suc (suc d)) l = absurd (omega arith)

-- one digit before those that are held
digit_before : (f : ℕ → Bool) (p m d v s : ℕ) → d < 2 → f (suc p) ≡ eqb d 1 → ((s : ℕ) → s < m → f (suc (suc p + s)) ≡ digit v s) → s < suc m → f (suc (p + s)) ≡ digit (d + 2 * v) s
digit_before f p m d v zero low first others l =
    let e : suc (p + 0) ≡ suc p = omega arith in
    let same : (d + 2 * v) / 2 ^ 0 % 2 ≡ d = omega arith in
    ap f e ∙ first ∙ ap (λ x. eqb x 1) (sym same)
digit_before f p m d v (suc s) low first others l =
    let e : suc (p + suc s) ≡ suc (suc p + s) = omega arith in
    let half : (d + 2 * v) / 2 ≡ v = omega arith in
    ap f e ∙ others s (omega arith) ∙ ap (λ x. digit x s) (sym half) ∙ ap (λ x. eqb x 1) (half_digit (d + 2 * v) s)

pub value_holds : (f : ℕ → Bool) (p m : ℕ) → Holds f p m (value_of f p m)
unfolding value_of
value_holds f p zero = record { small = omega arith; place = λ s l. absurd (omega arith) }
value_holds f p (suc m) =
    let h = value_holds f (suc p) m in
    let low = digit_small (f (suc p)) in
    record {
      small = omega (arith, h.small, low, pow-suc 2 m);
      place = λ s l. digit_before f p m (digit_of (f (suc p))) (value_of f (suc p) m) s low (sym (digit_back (f (suc p)))) h.place l;
    }

pub value_only : (f : ℕ → Bool) (p m x : ℕ) → Holds f p m x → x ≡ value_of f p m
unfolding value_of
value_only f p zero x h = omega (arith, h.small)
value_only f p (suc m) x h =
    let e : suc p ≡ suc (p + 0) = omega arith in
    let first : x % 2 ≡ digit_of (f (suc p)) =
    digit_same (x % 2) (mod-lt x (omega arith)) ∙ ap digit_of (ap (λ d. eqb (d % 2) 1) (sym (div-one x)) ∙ sym (h.place 0 (omega arith)) ∙ sym (ap f e)) in
    let half : Holds f (suc p) m (x / 2) = record {
      small = omega (arith, h.small, pow-suc 2 m);
      place = λ s l.
          let on : suc (suc p + s) ≡ suc (p + suc s) = omega arith in
          ap f on ∙ h.place (suc s) (omega arith) ∙ ap (λ d. eqb d 1) (sym (half_digit x s));
    } in
    omega (arith, first, value_only f (suc p) m (x / 2) half)

pub held_same : (f g : ℕ → Bool) (p m x : ℕ) → ((i : ℕ) → p < i → i ≤ p + m → f i ≡ g i) → Holds f p m x → Holds g p m x
held_same f g p m x same h = record {
  small = h.small;
  place = λ s l. sym (same (suc (p + s)) (omega arith) (omega arith)) ∙ h.place s l;
}

pub value_same : (f g : ℕ → Bool) (p m : ℕ) → ((i : ℕ) → p < i → i ≤ p + m → f i ≡ g i) → value_of f p m ≡ value_of g p m
value_same f g p m same = value_only g p m _ (held_same f g p m _ same (value_holds f p m))

pub none_held : (m : ℕ) (p : ℕ) → Holds (λ i. false) p m 0
none_held m p = record { small = pow_pos m; place = λ s l. sym (miss _ (high_zero 0 0 s (omega arith) (omega arith))) }

-- one more digit is 1
pub or_held : (f : ℕ → Bool) (p m x s : ℕ) → Holds f p m x → s < m → Holds (λ j. eqb j (suc (p + s)) || f j) p m (bit_or x (2 ^ s))
or_held f p m x s h l = record { small = or_lt m x (2 ^ s) h.small (pow_below s m l); place = at }
  where
    at : (t : ℕ) → t < m → (eqb (suc (p + t)) (suc (p + s)) || f (suc (p + t))) ≡ digit (bit_or x (2 ^ s)) t
    at t b =
        let both : bit_or x (2 ^ s) / 2 ^ t % 2 ≡ max (x / 2 ^ t % 2) (2 ^ s / 2 ^ t % 2) = bit_at_or x (2 ^ s) t in
        ⊎_elim
        (λ same.
        let small : x / 2 ^ t % 2 < 2 = mod-lt (x / 2 ^ t) (omega arith) in
        let one : 2 ^ s / 2 ^ t % 2 ≡ 1 = ap (λ y. 2 ^ s / 2 ^ y % 2) same ∙ bit_at-pow_same s in
        or_left _ _ (eq-eqb (suc (p + t)) (suc (p + s)) (omega arith)) ∙ sym (eq-eqb _ 1 (omega (arith, both, one, small))))
        (λ apart.
        let none : 2 ^ s / 2 ^ t % 2 ≡ 0 = bit_at-pow_other s t apart in
        let kept : bit_or x (2 ^ s) / 2 ^ t % 2 ≡ x / 2 ^ t % 2 = omega arith in
        ap (λ c. c || f (suc (p + t))) (ne_eqb (suc (p + t)) (suc (p + s)) (λ e. apart (omega arith))) ∙ h.place t b ∙ ap (λ d. eqb d 1) (sym kept))
        (cases_eq t s)
