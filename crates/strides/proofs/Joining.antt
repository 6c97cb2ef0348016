-- The rows from a bit on, of which two numbers hold 64.
use Rattle.std.proofs.Common.{◌≡◌, ℕ, zero, suc, ◌+◌, ◌<◌, ◌≤◌, Bool, not, cond, ◌&&◌, ◌||◌, List, ◌++◌, ap, ◌∙◌, arith}
use Rattle.sets.specs.Search.{count_to}
use Rattle.bits.specs.Words.{Holds}
use Rattle.strides.specs.declared.standing.Stance.{Stance}
use Rattle.strides.specs.Strides.{row_of, numbered, both, last_alone, is_fresh, begins, after}
use Rattle.strides.proofs.Numbering.{numbered_agree, numbered_join}

-- the word x holds the bits of f after p, and y those of c
module _ (f c : ℕ → Bool) (p x y : ℕ) (hx : Holds f p 64 x) (hy : Holds c p 64 y) where
  both_at : (n : ℕ) → n < 64 → both f c (suc (p + n)) ≡ both (row_of x) (row_of y) (suc n)
  both_at n l = λ i. hx.place n l i && hy.place n l i

  fresh_join : (was : Bool) (n : ℕ) → n ≤ 64 → is_fresh f c was (p + n) ≡ is_fresh (row_of x) (row_of y) (is_fresh f c was p) n
  fresh_join was zero l = let e : p + 0 ≡ p = omega arith in ap (is_fresh f c was) e
  fresh_join was (suc n) l = let e : p + suc n ≡ suc (p + n) = omega arith in ap (is_fresh f c was) e ∙ both_at n (omega arith)

last_join : (f c : ℕ → Bool) (p x y : ℕ) (hx : Holds f p 64 x) (hy : Holds c p 64 y) (was : Bool) (n : ℕ) → n ≤ 64
    → last_alone f c was (p + n) ≡ last_alone (row_of x) (row_of y) (last_alone f c was p) n
unfolding last_alone
last_join f c p x y hx hy was zero l = let e : p + 0 ≡ p = omega arith in ap (last_alone f c was) e
last_join f c p x y hx hy was (suc n) l =
    let e : p + suc n ≡ suc (p + n) = omega arith in
    let on = last_join f c p x y hx hy was n (omega arith) in
    let first = hx.place n (omega arith) in
    let second = hy.place n (omega arith) in
    ap (last_alone f c was) e ∙ (λ i. not (second i) && (first i || on i))

module _ (f c : ℕ → Bool) (s : Stance) (p x y : ℕ) (hx : Holds f p 64 x) (hy : Holds c p 64 y) where
  pub after_join : (n : ℕ) → n ≤ 64 → after f c s (p + n) ≡ after (row_of x) (row_of y) (after f c s p) n
  unfolding after
  after_join n l = λ i. record {
    fresh = fresh_join f c p x y hx hy s.fresh n l i;
    in_free = last_join f c p x y hx hy s.in_free n l i;
    in_class = last_join c f p y x hy hx s.in_class n l i;
  }

  begins_join : (n : ℕ) → n < 64 → begins f c s (suc (p + n)) ≡ begins (row_of x) (row_of y) (after f c s p) (suc n)
  unfolding begins after
  begins_join n l =
      let first = hx.place n l in
      let second = hy.place n l in
      let in_class = last_join c f p y x hy hx s.in_class n (omega arith) in
      let in_free = last_join f c p x y hx hy s.in_free n (omega arith) in
      let fresh = fresh_join f c p x y hx hy s.fresh n (omega arith) in
      λ i. fresh i || ((first i && second i) || ((first i && in_class i) || (second i && in_free i)))

  pub count_join : (n : ℕ) → n ≤ 64 → count_to (begins f c s) (p + n) ≡ count_to (begins f c s) p + count_to (begins (row_of x) (row_of y) (after f c s p)) n
  unfolding count_to
  count_join zero l = let e : p + 0 ≡ p = omega arith in ap (count_to (begins f c s)) e ∙ omega arith
  count_join (suc n) l =
      let e : p + suc n ≡ suc (p + n) = omega arith in
      let on = count_join n (omega arith) in
      let here = ap {B = ℕ} (λ (b : Bool). cond b 1 0) (begins_join n (omega arith)) in
      ap (count_to (begins f c s)) e ∙ omega (arith, on, here)

  pub numbers_join : (first : ℕ) → numbered (both f c) first (p + 64) ≡ numbered (both f c) first p ++ numbered (both (row_of x) (row_of y)) (first + p) 64
  numbers_join first =
      numbered_join (both f c) first p 64
      ∙ ap (λ (xs : List ℕ). numbered (both f c) first p ++ xs)
      (numbered_agree (λ i. both f c (p + i)) (both (row_of x) (row_of y)) (first + p) 64 (λ n l.
      (let e : p + suc n ≡ suc (p + n) = omega arith in ap (both f c) e) ∙ both_at f c p x y hx hy n l))
