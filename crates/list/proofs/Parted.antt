-- Places of which those that pass a test come first: what one of them tells of the others.
use Rattle.std.proofs.Common.{◌≡◌, ℕ, ◌+◌, ◌-◌, ◌*◌, ◌<◌, ◌≤◌, Bool, true, false, mul-le-mul_left, sym, ap, ◌∙◌, subst, ⊎_elim, arith}
use Rattle.std.proofs.lemmas.Bool.{cases_Bool, cases_lt, both_ways}
use Rattle.sets.specs.Packing.{digit_of}
use Rattle.list.specs.Parting.{ComeFirst, PartedAt}

module _ (p : ℕ → Bool) (a b : ℕ) (come : ComeFirst p a b) where
  low : (j i : ℕ) → p j ≡ true → j < b → a ≤ i → i ≤ j → p i ≡ true
  low j i e l h less = ⊎_elim
      (λ before. come i j (h, before, l) e)
      (λ here. let same : i ≡ j = omega arith in ap p same ∙ e)
      (cases_lt i j)

  high : (j i : ℕ) → p j ≡ false → a ≤ j → j ≤ i → i < b → p i ≡ false
  high j i e h less l = ⊎_elim (λ t. absurd (both_ways _ e (low i j t l h less))) (λ f. f) (cases_Bool (p i))

  -- those before `first` pass, and those behind the `size` after it do not
  abbrev pub Within : ℕ → ℕ → Type 0
  Within first size = (a ≤ first) × (first + size ≤ b) × ((j : ℕ) → a ≤ j → j < first → p j ≡ true) × ((j : ℕ) → first + size ≤ j → j < b → p j ≡ false)

  -- three places more were asked
  module _ (first size step : ℕ) (some : 1 ≤ step) (room : 4 * step ≤ size) (w : Within first size) where
    -- so many of them pass
    abbrev pub asked : ℕ
    asked = digit_of (p (first + step)) + digit_of (p (first + 2 * step)) + digit_of (p (first + 3 * step))

    inside : first + size ≤ b
    inside = w.1

    pub three_more : Within (first + step * asked) (size - 3 * step)
    three_more =
        ⊎_elim
        (λ e1. ⊎_elim
        (λ e2. ⊎_elim
        (λ e3. at 3 (omega (arith, ap digit_of e1, ap digit_of e2, ap digit_of e3)) (omega arith)
        (λ j l h. low (first + 3 * step) j e3 (omega (arith, inside)) l (omega arith))
        (λ j l h. w.3 j (omega arith) h))
        (λ e3. at 2 (omega (arith, ap digit_of e1, ap digit_of e2, ap digit_of e3)) (omega arith)
        (λ j l h. low (first + 2 * step) j e2 (omega (arith, inside)) l (omega arith))
        (λ j l h. high (first + 3 * step) j e3 (omega (arith, w.0)) (omega arith) h))
        (cases_Bool (p (first + 3 * step))))
        (λ e2.
        let e3 = high (first + 2 * step) (first + 3 * step) e2 (omega (arith, w.0)) (omega arith) (omega (arith, inside)) in
        at 1 (omega (arith, ap digit_of e1, ap digit_of e2, ap digit_of e3)) (omega arith)
        (λ j l h. low (first + step) j e1 (omega (arith, inside)) l (omega arith))
        (λ j l h. high (first + 2 * step) j e2 (omega (arith, w.0)) (omega arith) h))
        (cases_Bool (p (first + 2 * step))))
        (λ e1.
        let e2 = high (first + step) (first + 2 * step) e1 (omega (arith, w.0)) (omega arith) (omega (arith, inside)) in
        let e3 = high (first + step) (first + 3 * step) e1 (omega (arith, w.0)) (omega arith) (omega (arith, inside)) in
        at 0 (omega (arith, ap digit_of e1, ap digit_of e2, ap digit_of e3)) (omega arith)
        (λ j l h. w.2 j l (omega arith))
        (λ j l h. high (first + step) j e1 (omega (arith, w.0)) (omega arith) h))
        (cases_Bool (p (first + step)))
      where
        at : (k : ℕ) → asked ≡ k → k ≤ 3 → ((j : ℕ) → a ≤ j → j < first + step * k → p j ≡ true)
            → ((j : ℕ) → first + step * k + (size - 3 * step) ≤ j → j < b → p j ≡ false) → Within (first + step * asked) (size - 3 * step)
        at k e few before behind =
            let most : step * k ≤ step * 3 = mul-le-mul_left step few in
            subst (λ (n : ℕ). Within (first + step * n) (size - 3 * step)) (sym e) (omega (arith, w.0), omega (arith, inside, most), before, behind)

  -- the places that are left were asked
  pub all_asked : (first size end : ℕ) → Within first size → PartedAt p first (first + size) end → PartedAt p a b end
  all_asked first size end w h = (
    omega (arith, w.0, h.0),
    omega (arith, w.1, h.1),
    λ j l g. ⊎_elim (λ before. w.2 j l before) (λ here. h.2 j here g) (cases_lt j first),
    λ j l g. ⊎_elim (λ here. h.3 j l here) (λ behind. w.3 j behind g) (cases_lt j (first + size)),
  )

  pub come_within : (first size : ℕ) → Within first size → ComeFirst p first (first + size)
  come_within first size w i j h e = come i j (omega (arith, w.0, h.0), h.1, omega (arith, w.1, h.2)) e
