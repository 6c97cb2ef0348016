-- The ones of a word that are left behind a place.
use Rattle.std.proofs.Common.{◌≡◌, ℕ, zero, suc, ◌+◌, ◌-◌, ◌*◌, ◌/◌, ◌%◌, ◌^◌, ◌<◌, ◌≤◌, min, Bool, true, false, ◌&&◌, eqb, ltb, Some, None, Option, List, length, sym, ap, ◌∙◌, ⊎_elim, arith, mod-lt, pow_pos, bit_and, shr-shr, subst}
use Rattle.std.specs.Int.Bits.{and_lt}
use Rattle.std.proofs.lemmas.Bool.{cases_lt, cases_order, both_ways, lt-ltb, le-ltb, ltb-true, and_parts, and_left}
use Rattle.std.proofs.lemmas.Nat.Bits.{bit_at_and}
use lib.Count.{count_trailing_zeros}
use Rattle.bits.specs.Bits.{bit_at}
use Rattle.bits.specs.Checks.{Whole, Clear}
use Rattle.bits.specs.Words.{Holds}
use Rattle.bits.proofs.Digits.{half_digit, trailing_low, trailing_hit, trailing_some}
use Rattle.bits.proofs.Held.{miss, none_past, first_past}
use Rattle.bits.proofs.Moved.{up_low, up_high}
use Rattle.bits.proofs.Values.{held_same}
use Rattle.sets.specs.Search.{first_from}
use Rattle.sets.proofs.Tests.{FirstIs, first_by, first_law}
use Rattle.pioneer.specs.Ones.{NoneIn, WordIs}

-- ---- the digits of a number and of the one below it

below_at : (t n : ℕ) → n / 2 ^ t % 2 ≡ 1 → ((i : ℕ) → i < t → n / 2 ^ i % 2 ≡ 0) → (n - 1) / 2 ^ t % 2 ≡ 0
below_at zero n one low = omega (arith, one)
below_at (suc t) n one low =
    let even : n / 2 ^ 0 % 2 ≡ 0 = low 0 (omega arith) in
    let half : (n - 1) / 2 ≡ n / 2 - 1 = omega (arith, even) in
    sym (half_digit (n - 1) t) ∙ ap (λ (x : ℕ). x / 2 ^ t % 2) half
    ∙ below_at t (n / 2) (half_digit n t ∙ one) (λ i l. half_digit n i ∙ low (suc i) (omega arith))

below_past : (t n s : ℕ) → n / 2 ^ t % 2 ≡ 1 → ((i : ℕ) → i < t → n / 2 ^ i % 2 ≡ 0) → t < s → (n - 1) / 2 ^ s % 2 ≡ n / 2 ^ s % 2
below_past t n zero one low l = absurd (omega arith)
below_past zero n (suc s) one low l =
    let half : (n - 1) / 2 ≡ n / 2 = omega (arith, one) in
    sym (half_digit (n - 1) s) ∙ ap (λ (x : ℕ). x / 2 ^ s % 2) half ∙ half_digit n s
below_past (suc t) n (suc s) one low l =
    let even : n / 2 ^ 0 % 2 ≡ 0 = low 0 (omega arith) in
    let half : (n - 1) / 2 ≡ n / 2 - 1 = omega (arith, even) in
    sym (half_digit (n - 1) s) ∙ ap (λ (x : ℕ). x / 2 ^ s % 2) half
    ∙ below_past t (n / 2) s (half_digit n t ∙ one) (λ i l. half_digit n i ∙ low (suc i) (omega arith)) (omega arith) ∙ half_digit n s

-- ---- the bits behind a place

abbrev pub past : (ℕ → Bool) → ℕ → ℕ → Bool
past f p i = ltb p i && f i

module _ (f : ℕ → Bool) where
  past_out : (p i : ℕ) → i ≤ p → past f p i ≡ false
  past_out p i l = and_left _ _ (le-ltb p i l)

  pub past_in : (p i : ℕ) → p < i → past f p i ≡ f i
  past_in p i l = ap (λ b. b && f i) (lt-ltb p i l)

  -- all of a word, and those behind place p
  pub whole_held : (b p x : ℕ) → p ≤ b → Holds f b 64 x → Holds (past f p) b 64 x
  whole_held b p x l h = held_same f (past f p) b 64 x (λ i low high. sym (past_in p i (omega arith))) h

  pub left_held : (w k p x : ℕ) → k < 64 → 64 * w + k ≡ p → Holds f (64 * w) 64 x → Holds (past f p) (64 * w) 64 (x / 2 ^ k * 2 ^ k % 2 ^ 64)
  left_held w k p x small e h = record {
    small = mod-lt (x / 2 ^ k * 2 ^ k) (pow_pos 64);
    place = λ s l. ⊎_elim
        (λ less. past_out p (suc (64 * w + s)) (omega arith) ∙ sym (miss _ (up_low (x / 2 ^ k) k 64 s l less)))
        (λ more.
        let same : k + (s - k) ≡ s = omega arith in
        past_in p (suc (64 * w + s)) (omega arith) ∙ h.place s l
        ∙ ap (λ d. eqb d 1) (sym (up_high (x / 2 ^ k) k 64 s l more ∙ ap (λ (y : ℕ). y % 2) (shr-shr x k (s - k)) ∙ ap (λ (y : ℕ). x / 2 ^ y % 2) same)))
        (cases_lt s k);
  }

  module _ (b p x : ℕ) (h : Holds (past f p) b 64 x) (some : 0 < x) where
    abbrev zeros : ℕ
    zeros = count_trailing_zeros 64 x

    abbrev at : ℕ
    at = b + 1 + zeros

    pub first : (past f p at ≡ true) × ((j : ℕ) → b < j → j ≤ at - 1 → past f p j ≡ false)
    first =
        let found = first_past (past f p) b 64 x 0 x at h (omega arith) some (omega arith) in
        (found.0, λ j l g. found.1 j (omega arith) g)

    pub parts : (p < at) × (f at ≡ true)
    parts = let both = and_parts (ltb p at) (f at) first.0 in (ltb-true p at both.0, both.1)

    low : zeros < 64
    low = trailing_some 64 x some h.small

    hit : x / 2 ^ zeros % 2 ≡ 1
    hit = trailing_hit 64 x low

    -- without the first
    pub taken : Holds (past f at) b 64 (bit_and x (x - 1))
    taken = record {
      small = and_lt 64 x (x - 1) h.small (omega (arith, h.small));
      place = λ s l.
          let both : bit_and x (x - 1) / 2 ^ s % 2 ≡ min (x / 2 ^ s % 2) ((x - 1) / 2 ^ s % 2) = bit_at_and x (x - 1) s in
          ⊎_elim
          (λ same.
          let none : (x - 1) / 2 ^ s % 2 ≡ 0 = ap (λ (y : ℕ). (x - 1) / 2 ^ y % 2) same ∙ below_at zeros x hit (λ i a. trailing_low 64 x i a) in
          past_out at (suc (b + s)) (omega arith) ∙ sym (miss _ (omega (arith, both, none))))
          (⊎_elim
          (λ less. past_out at (suc (b + s)) (omega arith) ∙ sym (miss _ (omega (arith, both, trailing_low 64 x s less))))
          (λ more.
          let kept : bit_and x (x - 1) / 2 ^ s % 2 ≡ x / 2 ^ s % 2 = omega (arith, both, below_past zeros x s hit (λ i a. trailing_low 64 x i a) more) in
          past_in at (suc (b + s)) (omega arith) ∙ sym (past_in p (suc (b + s)) (omega (arith, parts.0))) ∙ h.place s l ∙ ap (λ d. eqb d 1) (sym kept)))
          (cases_order s zeros);
    }

    pub at_within : at ≤ b + 64
    at_within = omega (arith, low)

    -- it is the next one
    pub next_found : (n : ℕ) → NoneIn f p b → ((i : ℕ) → n < i → f i ≡ false) → (at ≤ n) × (Some at ≡ first_from f (p + 1) (suc n - (p + 1)))
    next_found n none clear =
        let within : at ≤ n = ⊎_elim (λ beyond. absurd (both_ways _ (clear at beyond) parts.1)) (λ l. l) (cases_lt n at) in (
          within,
          first_by f (p + 1) (suc n - (p + 1)) (Some at) (
            omega (arith, parts.0),
            omega (arith, parts.0, within),
            parts.1,
            λ j l g. ⊎_elim (λ more. sym (past_in p j (omega arith)) ∙ first.1 j more (omega arith)) (λ less. none j (omega arith) less) (cases_lt b j),
          ),
        )

  -- none is left
  pub rest_none : (b p x : ℕ) → x ≡ 0 → b ≤ p → Holds (past f p) b 64 x → NoneIn f p (b + 64)
  rest_none b p x z l h j low high =
      let none = none_past (past f p) b 64 x 0 h (omega arith) in
      sym (past_in p j low) ∙ none j (omega arith) high

  pub none_found : (p b n : ℕ) → NoneIn f p b → NoneIn f b n → None ≡ first_from f (p + 1) (suc n - (p + 1))
  none_found p b n near far =
      first_by f (p + 1) (suc n - (p + 1)) None (λ j l g. ⊎_elim (λ more. far j more (omega arith)) (λ less. near j (omega arith) less) (cases_lt b j))

  pub none_joined : (a b d : ℕ) → NoneIn f a b → NoneIn f b d → NoneIn f a d
  none_joined a b d low high j l h = ⊎_elim (λ more. high j more h) (λ less. low j l less) (cases_lt b j)

  -- a word in which the next one lies
  pub record Ready (p : ℕ) (found : ℕ × ℕ) : Type 0 where
    pub some : 0 < found.1
    pub held : Holds (past f p) (64 * found.0) 64 found.1
    pub near : NoneIn f p (64 * found.0)

  pub ready_same : (p : ℕ) (found word : ℕ × ℕ) → word ≡ found → Ready p found → Ready p word
  ready_same p found word e r = subst (Ready p) (sym e) r

  -- it is this one, or a later one
  pub ready_here : (p w x : ℕ) → 64 * w ≤ p → (x ≡ 0 → ⊥) → Holds (past f p) (64 * w) 64 x → Ready p (w, x)
  ready_here p w x l some h = record {
    some = ⊎_elim (λ z. absurd (some (omega arith))) (λ m. m) (cases_lt x 1);
    held = h;
    near = λ j low high. absurd (omega arith);
  }

  pub ready_later : (p w x n : ℕ) (found : ℕ × ℕ) → 64 * w ≤ p → p ≤ 64 * w + 64 → x ≡ 0 → Holds (past f p) (64 * w) 64 x → WordIs f (w + 1) n (Some found) → Ready p found
  ready_later p w x n found low high z h is =
      let near = rest_none (64 * w) p x z low h in record {
        some = is.2;
        held = whole_held (64 * found.0) p found.1 (omega (arith, is.0)) is.3;
        near = none_joined p (64 * w + 64) _ near (λ j a b. is.4 j (omega arith) b);
      }

  pub later_none : (p w x n : ℕ) → 64 * w ≤ p → x ≡ 0 → Holds (past f p) (64 * w) 64 x → NoneIn f (64 * (w + 1)) n → None ≡ first_from f (p + 1) (suc n - (p + 1))
  later_none p w x n low z h far = none_found p (64 * w + 64) n (rest_none (64 * w) p x z low h) (λ j a b. far j (omega arith) b)

-- ---- the next one of a row that has n bits

short : (f : ℕ → Bool) (p n m : ℕ) (o : Option ℕ) → n ≤ m → ((i : ℕ) → n < i → f i ≡ false) → FirstIs f p (suc m - p) o → FirstIs f p (suc n - p) o
short f p n m None l clear law = λ j a b. law j a (omega arith)
short f p n m (Some q) l clear law =
    (law.0, ⊎_elim (λ beyond. absurd (both_ways _ (clear q beyond) law.2)) (λ within. omega (arith, law.0)) (cases_lt n q), law.2, law.3)

pub next_of_row : (row bytes : List ℕ) (n p place : ℕ) (o : Option ℕ) → (bytes ≡ row) × (place ≡ p) → Whole n row → Clear n row
    → o ≡ first_from (bit_at bytes) (place + 1) (suc (8 * length bytes) - (place + 1)) → o ≡ first_from (bit_at row) (p + 1) (suc n - (p + 1))
next_of_row row bytes n p place o same whole clear e =
    let m = 8 * length bytes in
    let long = ap length same.0 in
    let found : FirstIs (bit_at bytes) (place + 1) (suc m - (place + 1)) o = subst (FirstIs (bit_at bytes) (place + 1) (suc m - (place + 1))) (sym e) (first_law (bit_at bytes) (place + 1) _) in
    let same_row = subst (λ b. FirstIs (bit_at b) (place + 1) (suc m - (place + 1)) o) same.0 found in
    let same_place = subst (λ q. FirstIs (bit_at row) (q + 1) (suc m - (q + 1)) o) same.1 same_row in
    first_by (bit_at row) (p + 1) (suc n - (p + 1)) o (short (bit_at row) (p + 1) n m o (omega (arith, whole, long)) clear same_place)
