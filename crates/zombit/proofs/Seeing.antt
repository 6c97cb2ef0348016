-- What is seen in some bits, and what a number that holds them tells of it.
use Rattle.std.proofs.Common.{◌≡◌, ℕ, suc, ◌+◌, ◌-◌, ◌/◌, ◌^◌, ◌<◌, ◌≤◌, max, Bool, true, false, not, ◌||◌, eqb, is_some, Some, None, Option, sym, refl, ap, ◌∙◌, ⊎_elim, arith, mod-lt, bit_or}
use Rattle.std.proofs.Math.Nat.{div-one}
use lib.Bits.{bit_and}
use lib.Count.{count_trailing_zeros}
use Rattle.std.proofs.lemmas.Bool.{cases_lt, both_ways, eq-eqb, ne_eqb}
use Rattle.std.proofs.lemmas.Nat.{or_lt}
use Rattle.std.proofs.lemmas.Nat.Bits.{bit_at_or}
use Rattle.sets.specs.Search.{first_from}
use Rattle.sets.proofs.Tests.{FirstIs, first_law, first_by}
use Rattle.bits.specs.Words.{Holds}
use Rattle.bits.proofs.Digits.{trailing_some}
use Rattle.bits.proofs.Held.{none_past, first_past, front_held, others_held}
use Rattle.zombit.specs.Opening.{some_in}

-- ---- one of some numbers passes, or none does

module _ (f : ℕ → Bool) (p n : ℕ) where
  pub some_by : (q : ℕ) → p ≤ q → q < p + n → f q ≡ true → is_some (first_from f p n) ≡ true
  some_by q low high hit = found (first_from f p n) (first_law f p n)
    where
      found : (r : Option ℕ) → FirstIs f p n r → is_some r ≡ true
      found None law = absurd (both_ways _ (law q low high) hit)
      found (Some k) law = refl

  pub none_by : ((j : ℕ) → p ≤ j → j < p + n → f j ≡ false) → is_some (first_from f p n) ≡ false
  none_by none = ap is_some (sym (first_by f p n None none))

  -- what was found, and what was not
  pub record Among : Type 0 where
    pub at : ℕ
    pub low : p ≤ at
    pub high : at < p + n
    pub hit : f at ≡ true

  pub some_at : is_some (first_from f p n) ≡ true → Among
  some_at e = found (first_from f p n) (first_law f p n) e
    where
      found : (r : Option ℕ) → FirstIs f p n r → is_some r ≡ true → Among
      found None law e = absurd (both_ways _ refl e)
      found (Some q) law e = record { at = q; low = law.0; high = law.1; hit = law.2 }

  pub none_at : is_some (first_from f p n) ≡ false → (j : ℕ) → p ≤ j → j < p + n → f j ≡ false
  none_at e = found (first_from f p n) (first_law f p n) e
    where
      found : (r : Option ℕ) → FirstIs f p n r → is_some r ≡ false → (j : ℕ) → p ≤ j → j < p + n → f j ≡ false
      found None law e j low high = law j low high
      found (Some q) law e j low high = absurd (both_ways _ e refl)

-- ---- by a number

-- a bit passes exactly if the number is not 0
some_held : (f : ℕ → Bool) (p n x : ℕ) → Holds f p n x → not (eqb x 0) ≡ some_in f p n
some_held f p n x h = ⊎_elim
    (λ some.
    let t = count_trailing_zeros n x in
    let whole : x ≡ x / 2 ^ 0 = sym (div-one x) in
    let first = first_past f p n x 0 x (suc (p + 0 + t)) h whole some refl in
    let inside : t < n = trailing_some n x some h.small in
    ap not (ne_eqb x 0 (λ e. omega arith)) ∙ sym (some_by f (suc p) n (suc (p + 0 + t)) (omega arith) (omega arith) first.0))
    (λ none.
    let zero' : x ≡ 0 = omega arith in
    let past = none_past f p n x 0 h (div-one x ∙ zero') in
    ap not (eq-eqb x 0 zero') ∙ sym (none_by f (suc p) n (λ j a b. past j (omega arith) (omega arith))))
    (cases_lt 0 x)

module _ (f : ℕ → Bool) (p n x : ℕ) (few : n ≤ 64) (h : Holds f p 64 x) where
  pub some_one : not (eqb (bit_and x ((2 ^ 64 - 1) / 2 ^ (64 - n))) 0) ≡ some_in f p n
  some_one = some_held f p n _ (front_held f p 64 x (64 - n) n h (omega arith))

  pub some_zero : not (eqb (bit_and (2 ^ 64 - 1 - x) ((2 ^ 64 - 1) / 2 ^ (64 - n))) 0) ≡ some_in (λ i. not (f i)) p n
  some_zero = some_held (λ i. not (f i)) p n _ (front_held (λ i. not (f i)) p 64 _ (64 - n) n (others_held f p 64 x h) (omega arith))

-- two rows in one
pub either_held : (f g : ℕ → Bool) (p m x y : ℕ) → Holds f p m x → Holds g p m y → Holds (λ i. f i || g i) p m (bit_or x y)
either_held f g p m x y h k = record {
  small = or_lt m x y h.small k.small;
  place = λ s l. (λ i. h.place s l i || k.place s l i) ∙ either _ _ _ (mod-lt (x / 2 ^ s) (omega arith)) (mod-lt (y / 2 ^ s) (omega arith)) (bit_at_or x y s);
}
  where
    either : (a b c : ℕ) → a < 2 → b < 2 → c ≡ max a b → (eqb a 1 || eqb b 1) ≡ eqb c 1
    either a b c l m e = ⊎_elim
        (λ z. let zero' : a ≡ 0 = omega arith in let same : c ≡ b = omega arith in ap (λ d. d || eqb b 1) (ne_eqb a 1 (λ o. omega arith)) ∙ ap (λ d. eqb d 1) (sym same))
        (λ o. let one : a ≡ 1 = omega arith in let both : c ≡ 1 = omega arith in ap (λ d. d || eqb b 1) (eq-eqb a 1 one) ∙ sym (eq-eqb c 1 both))
        (cases_lt a 1)
