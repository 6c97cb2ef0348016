-- A search for what is wrong, as a check; and that the checks of O and of M ask for what is lawful.
use Rattle.std.proofs.Common.{◌≡◌, ℕ, suc, ◌+◌, ◌-◌, ◌*◌, ◌<◌, Bool, true, false, not, List, is_some, Some, None, Ok, Err, Option, sym, refl, ap, ◌∙◌, ⊎_elim, arith}
use Rattle.faults.specs.Checks.{CheckIs, none_found}
use Rattle.faults.specs.Numbers.{flaw_number}
use Rattle.faults.specs.declared.fault.Flaw.{Flaw}
use Rattle.faults.specs.declared.fault.Flaw.TheVariants.{Unlawful}
use Rattle.std.proofs.lemmas.Bool.{cases_Bool, both_ways, cond-true, cond-false, and_parts, and_cases, and_left, ltb-true, ltb-false, not-true, not-false}
use Rattle.sets.specs.Search.{first_from}
use Rattle.sets.proofs.Tests.{FirstIs, first_law, first_by}
use Rattle.bits.specs.Bits.{bit_at}
use Rattle.zombit.specs.Blocks.{blocks_of, bits_before}
use Rattle.zombit.specs.Lawful.{Place, LawfulO, LawfulM}
use Rattle.zombit.specs.Opening.{wrong_mark, mark_check, some_in, fit_block, wrong_mix, mix_check}

-- ---- what is wrong in one of n blocks

module _ (f : ℕ → Bool) (n : ℕ) (flaw : Flaw) where
  pub none_wrong : ((k : ℕ) → k < n → f k ≡ false) → Ok tt ≡ none_found flaw (first_from f 0 n)
  none_wrong none = ap (none_found flaw) (first_by f 0 n None (λ k l h. none k (omega arith)))

  pub one_wrong : (k : ℕ) → k < n → true ≡ f k → Err flaw ≡ none_found flaw (first_from f 0 n)
  one_wrong k l e = found (first_from f 0 n) (first_law f 0 n)
    where
      found : (r : Option ℕ) → FirstIs f 0 n r → Err flaw ≡ none_found flaw r
      found None law = absurd (both_ways _ (law k (omega arith) (omega arith)) (sym e))
      found (Some q) law = refl

  wrong_law : (P : Type 0) → (((k : ℕ) → k < n → f k ≡ false) → P) → ((k : ℕ) → k < n → f k ≡ true → P → ⊥) → CheckIs (flaw_number flaw) P (none_found flaw (first_from f 0 n))
  wrong_law P right wrong = found (first_from f 0 n) (first_law f 0 n)
    where
      found : (r : Option ℕ) → FirstIs f 0 n r → CheckIs (flaw_number flaw) P (none_found flaw r)
      found None law = right (λ k l. law k (omega arith) (omega arith))
      found (Some q) law = (refl, wrong q (omega (arith, law.1)) law.2)

-- ---- the bits of O

module _ (u β : ℕ) (U O : ℕ → Bool) where
  marks_right : ((k : ℕ) → k < blocks_of u β → wrong_mark u β U O k ≡ false) → LawfulO u β U O
  marks_right none = (
    λ k m. not-false _ (sym (cond-false (U (suc k)) _ _ m.1) ∙ none k m.0),
    λ k m.
        let e = sym (cond-true (U (suc k)) _ _ m.0.1) ∙ none k m.0.0 in
        ⊎_elim (λ unmarked. absurd (both_ways _ unmarked m.1)) (λ within. ltb-false u (k * β + β) within) (and_cases _ _ e),
  )

  mark_wrong : (k : ℕ) → k < blocks_of u β → wrong_mark u β U O k ≡ true → LawfulO u β U O → ⊥
  mark_wrong k l e law =
      ⊎_elim
      (λ uniform.
      let past = and_parts _ _ (sym (cond-true (U (suc k)) _ _ uniform) ∙ e) in
      let within = law.1 k ((l, uniform), past.0) in
      omega (arith, within, ltb-true u (k * β + β) past.1))
      (λ mixed. both_ways _ (not-true _ (sym (cond-false (U (suc k)) _ _ mixed) ∙ e)) (law.0 k (l, mixed)))
      (cases_Bool (U (suc k)))

pub mark_law : (u β : ℕ) (us os : List ℕ) → CheckIs 6 (LawfulO u β (bit_at us) (bit_at os)) (mark_check u β us os)
mark_law u β us os =
    wrong_law (wrong_mark u β (bit_at us) (bit_at os)) (blocks_of u β) Unlawful (LawfulO u β (bit_at us) (bit_at os))
    (marks_right u β (bit_at us) (bit_at os)) (mark_wrong u β (bit_at us) (bit_at os))

-- ---- the bits of M

module _ (f : ℕ → Bool) (a n : ℕ) where
  pub some_one : some_in f a n ≡ true → ((j : ℕ) → Place n j → f (a + j) ≡ false) → ⊥
  some_one = found (first_from f (suc a) n) (first_law f (suc a) n)
    where
      found : (r : Option ℕ) → FirstIs f (suc a) n r → is_some r ≡ true → ((j : ℕ) → Place n j → f (a + j) ≡ false) → ⊥
      found None law e none = both_ways _ refl e
      found (Some q) law e none =
          let at : a + (q - a) ≡ q = omega (arith, law.0) in
          both_ways _ (ap f (sym at) ∙ none (q - a) (omega (arith, law.0), omega (arith, law.1))) law.2

  pub some_none : some_in f a n ≡ false → (j : ℕ) → Place n j → f (a + j) ≡ false
  some_none = found (first_from f (suc a) n) (first_law f (suc a) n)
    where
      found : (r : Option ℕ) → FirstIs f (suc a) n r → is_some r ≡ false → (j : ℕ) → Place n j → f (a + j) ≡ false
      found None law e j p = law (a + j) (omega (arith, p.0)) (omega (arith, p.1))
      found (Some q) law e j p = absurd (both_ways _ e refl)

module _ (M : ℕ → Bool) (a β e : ℕ) where
  -- the β bits after the first a are not all 0 and not all 1, and none after the first e is 1
  abbrev Fit : Type 0
  Fit =
      (((j : ℕ) → Place β j → M (a + j) ≡ false) → ⊥) × (((j : ℕ) → Place β j → M (a + j) ≡ true) → ⊥)
      × ((j : ℕ) → Place β j → e < j → M (a + j) ≡ false)

  fits : fit_block M a β e ≡ true → Fit
  fits h =
      let parts = and_parts _ _ h in
      let rest = and_parts _ _ parts.1 in (
        some_one M a β parts.0,
        λ all. some_one (λ i. not (M i)) a β rest.0 (λ j p. ap not (all j p)),
        λ j p l.
            let at : a + e + (j - e) ≡ a + j = omega arith in
            ap M (sym at) ∙ some_none M (a + e) (β - e) (not-true _ rest.1) (j - e) (omega arith, omega (arith, p.1)),
      )

  fits_not : fit_block M a β e ≡ false → Fit → ⊥
  fits_not h fit =
      ⊎_elim (λ zeros. fit.0 (some_none M a β zeros))
      (λ more.
      ⊎_elim (λ ones. fit.1 (λ j p. not-false _ (some_none (λ i. not (M i)) a β ones j p)))
      (λ past.
      some_one M (a + e) (β - e) (not-false _ past)
      (λ j p. let at : a + e + j ≡ a + (e + j) = omega arith in ap M at ∙ fit.2 (e + j) (omega (arith, p.0), omega (arith, p.1)) (omega (arith, p.0))))
      (and_cases _ _ more))
      (and_cases _ _ h)

module _ (u β : ℕ) (U M : ℕ → Bool) where
  -- a uniform block is never wrong
  pub mix_on : (k : ℕ) → U (suc k) ≡ true → false ≡ wrong_mix u β U M k
  mix_on k uniform = sym (and_left _ _ (ap not uniform))

  mixes_right : ((k : ℕ) → k < blocks_of u β → wrong_mix u β U M k ≡ false) → LawfulM u β U M
  mixes_right none = (λ k m. (fit k m).0, λ k m. (fit k m).1, λ k j m. (fit k m.0).2 j m.1 (omega (arith, m.2)))
    where
      fit : (k : ℕ) → (k < blocks_of u β) × (U (suc k) ≡ false) → Fit M (bits_before β U k) β (u - k * β)
      fit k m = ⊎_elim (λ uniform. absurd (both_ways _ m.1 (not-false _ uniform))) (λ e. fits M _ β _ (not-false _ e)) (and_cases _ _ (none k m.0))

  mix_wrong : (k : ℕ) → k < blocks_of u β → wrong_mix u β U M k ≡ true → LawfulM u β U M → ⊥
  mix_wrong k l e law =
      let parts = and_parts _ _ e in
      let mixed = not-true _ parts.0 in
      fits_not M _ β _ (not-true _ parts.1) (law.0 k (l, mixed), law.1 k (l, mixed), λ j p h. law.2 k j ((l, mixed), p, omega arith))

pub mix_law : (u β : ℕ) (us ms : List ℕ) → CheckIs 6 (LawfulM u β (bit_at us) (bit_at ms)) (mix_check u β us ms)
mix_law u β us ms =
    wrong_law (wrong_mix u β (bit_at us) (bit_at ms)) (blocks_of u β) Unlawful (LawfulM u β (bit_at us) (bit_at ms))
    (mixes_right u β (bit_at us) (bit_at ms)) (mix_wrong u β (bit_at us) (bit_at ms))
