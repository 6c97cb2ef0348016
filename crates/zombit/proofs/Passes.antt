-- What passes over the rows find wrong is what the checks of O and of M ask for.
use Rattle.std.proofs.Common.{◌≡◌, ℕ, suc, ◌+◌, ◌-◌, ◌*◌, ◌/◌, ◌<◌, ◌≤◌, Bool, true, false, not, ◌&&◌, ◌||◌, ltb, is_some, Ok, Err, sym, ap, ◌∙◌, ⊎_elim, suc-mul, zero-mul, mul-le-mul_right, arith}
use Rattle.faults.specs.Checks.{none_found}
use Rattle.faults.specs.declared.fault.Flaw.TheVariants.{Unlawful}
use Rattle.std.proofs.lemmas.Bool.{cases_Bool, cases_lt, both_ways, cond-true, cond-false, and_from, and_parts, and_cases, and_left, and_right, or_parts, or_from, le-ltb, not-true, not-false, not_from_true, not_from_false}
use Rattle.sets.specs.Search.{first_from}
use Rattle.sets.proofs.Tests.{count_here, count_mono}
use Rattle.zombit.specs.Blocks.{blocks_of, mixed_before, bits_before}
use Rattle.zombit.specs.Looking.{both_in, places_of}
use Rattle.zombit.specs.Opening.{wrong_mark, some_in, fit_block, wrong_mix}
use Rattle.zombit.proofs.Checked.{none_wrong, one_wrong, mix_on}
use Rattle.zombit.proofs.Mixing.{in_mixed}
use Rattle.zombit.proofs.Places.{block_at, block_in, block_of, blocks_reach}
use Rattle.zombit.proofs.Room.{bits_here, mixed_room}
use Rattle.zombit.proofs.Seeing.{some_at, none_at, none_by}

module _ (u β : ℕ) (U : ℕ → Bool) (some : 1 ≤ β) (bays : 1 ≤ u) where
  abbrev n : ℕ
  n = blocks_of u β

  -- each block but the last ends among the bays
  ends : (k : ℕ) → suc k < n → k * β + β ≤ u
  ends k l = omega (arith, block_of u β (suc k) some l, suc-mul k β)

  at_last : suc (n - 1) ≡ n
  at_last = let first = block_in u β 0 some (let e = zero-mul β in omega arith) in omega arith

  ends_last : (n - 1) * β + β ≡ places_of u β
  ends_last = sym (suc-mul (n - 1) β) ∙ ap (λ (x : ℕ). x * β) at_last

  -- ---- the bits of O

  module _ (O : ℕ → Bool) where
    abbrev f : ℕ → Bool
    f = wrong_mark u β U O

    abbrev lacks : ℕ → Bool
    lacks i = not (U i || O i)

    pub mark_lacks : some_in lacks 0 n ≡ true → Err Unlawful ≡ none_found Unlawful (first_from f 0 n)
    mark_lacks e =
        let q = some_at lacks 1 n e in
        let none = or_parts (U q.at) (O q.at) (not-true _ q.hit) in
        let same : suc (q.at - 1) ≡ q.at = omega (arith, q.low) in
        one_wrong f n Unlawful (q.at - 1) (omega (arith, q.low, q.high))
        (sym (cond-false _ _ _ (ap U same ∙ none.0) ∙ not_from_false _ (ap O same ∙ none.1)))

    -- the last block
    pub mark_past : (ltb u (places_of u β) && (U n && O n)) ≡ true → Err Unlawful ≡ none_found Unlawful (first_from f 0 n)
    mark_past e =
        let parts = and_parts _ _ e in
        let both = and_parts _ _ parts.1 in
        one_wrong f n Unlawful (n - 1) (omega (arith, at_last))
        (sym (cond-true _ _ _ (ap U at_last ∙ both.0) ∙ and_from _ _ (ap O at_last ∙ both.1) (ap (ltb u) ends_last ∙ parts.0)))

    pub marks_fit : some_in lacks 0 n ≡ false → (ltb u (places_of u β) && (U n && O n)) ≡ false → Ok tt ≡ none_found Unlawful (first_from f 0 n)
    marks_fit none last = none_wrong f n Unlawful right
      where
        right : (k : ℕ) → k < n → f k ≡ false
        right k l = ⊎_elim
            (λ y. cond-true _ _ _ y ∙ ⊎_elim
            (λ o. and_right _ _ (⊎_elim
            (λ more. le-ltb _ _ (ends k more))
            (λ same.
            let at : suc k ≡ n = omega arith in
            ap (ltb u) (sym (suc-mul k β) ∙ ap (λ (x : ℕ). x * β) at)
            ∙ ⊎_elim (λ e. e) (λ both. absurd (both_ways _ both (and_from _ _ (ap U (sym at) ∙ y) (ap O (sym at) ∙ o)))) (and_cases _ _ last))
            (cases_lt (suc k) n)))
            (λ o. and_left _ _ o)
            (cases_Bool (O (suc k))))
            (λ m.
            cond-false _ _ _ m
            ∙ not_from_true _ (⊎_elim (λ o. o) (λ o. absurd (both_ways _ (none_at lacks 1 n none (suc k) (omega arith) (omega arith)) (not_from_false _ (or_from _ _ m o)))) (cases_Bool (O (suc k)))))
            (cases_Bool (U (suc k)))

  -- ---- the bits of M

  module _ (M : ℕ → Bool) where
    abbrev g : ℕ → Bool
    g = wrong_mix u β U M

    abbrev bad : ℕ → Bool
    bad t = not (both_in M (t * β) β)

    abbrev past : ℕ
    past = places_of u β - u

    unfit : (a e : ℕ) → both_in M a β ≡ false → fit_block M a β e ≡ false
    unfit a e none = ⊎_elim
        (λ one. ⊎_elim (λ zero'. absurd (both_ways _ none (and_from _ _ one zero'))) (λ zero'. and_right _ _ (and_left _ _ zero')) (cases_Bool (some_in (λ i. not (M i)) a β)))
        (λ one. and_left _ _ one)
        (cases_Bool (some_in M a β))

    pub mix_unfit : is_some (first_from bad 0 (mixed_before U n)) ≡ true → Err Unlawful ≡ none_found Unlawful (first_from g 0 n)
    mix_unfit e =
        let t = some_at bad 0 (mixed_before U n) e in
        let fit : t.at * β + β ≤ mixed_before U n * β = omega (arith, mul-le-mul_right β (t.high), suc-mul t.at β) in
        let q = in_mixed β U n (suc (t.at * β)) some (omega arith) (omega (arith, fit, some)) in
        let same : t.at ≡ mixed_before U q.block =
        sym (block_at β t.at 0 (omega arith)) ∙ ap (λ (x : ℕ). x / β) (let h : t.at * β + 0 ≡ mixed_before U q.block * β + (q.at - 1) = omega (arith, q.is, q.placed.0) in h)
        ∙ block_at β (mixed_before U q.block) (q.at - 1) (omega (arith, q.placed.0, q.placed.1)) in
        one_wrong g n Unlawful q.block q.within
        (sym (and_from _ _ (not_from_false _ q.mixed) (not_from_false _ (unfit _ _ (ap (λ (x : ℕ). both_in M (x * β) β) (sym same) ∙ not-true _ t.hit)))))

    -- the last block
    inside : (n - 1) * β < u
    inside = block_of u β (n - 1) some (omega (arith, at_last))

    -- its bits past the last bay
    behind : U n ≡ false → (bits_before β U n - past ≡ bits_before β U (n - 1) + (u - (n - 1) * β)) × (past ≡ β - (u - (n - 1) * β))
    behind mixed =
        let bits = ap (bits_before β U) (sym at_last) ∙ bits_here β U (n - 1) (ap U at_last ∙ mixed) in
        (omega (arith, bits, inside, ends_last), omega (arith, inside, ends_last))

    ended : U n ≡ false → some_in M (bits_before β U n - past) past ≡ some_in M (bits_before β U (n - 1) + (u - (n - 1) * β)) (β - (u - (n - 1) * β))
    ended mixed = let at = behind mixed in λ i. some_in M (at.0 i) (at.1 i)

    pub mix_past : (not (U n) && some_in M (bits_before β U n - past) past) ≡ true → Err Unlawful ≡ none_found Unlawful (first_from g 0 n)
    mix_past e =
        let parts = and_parts _ _ e in
        let mixed = not-true _ parts.0 in
        one_wrong g n Unlawful (n - 1) (omega (arith, at_last))
        (sym (and_from _ _ (not_from_false _ (ap U at_last ∙ mixed)) (not_from_false _ (and_right _ _ (and_right _ _ (not_from_true _ (sym (ended mixed) ∙ parts.1)))))))

    pub mixes_fit : is_some (first_from bad 0 (mixed_before U n)) ≡ false → (not (U n) && some_in M (bits_before β U n - past) past) ≡ false → Ok tt ≡ none_found Unlawful (first_from g 0 n)
    mixes_fit none last = none_wrong g n Unlawful right
      where
        fits : (k : ℕ) → k < n → U (suc k) ≡ false → fit_block M (bits_before β U k) β (u - k * β) ≡ true
        fits k l mixed =
            let more : mixed_before U k < mixed_before U n = omega (arith, count_here (λ j. not (U j)) k (not_from_false _ mixed), count_mono (λ j. not (U j)) (suc k) n l) in
            let both = and_parts _ _ (not-false _ (none_at bad 0 (mixed_before U n) none (mixed_before U k) (omega arith) (omega arith))) in
            and_from _ _ both.0 (and_from _ _ both.1 (not_from_false _ (⊎_elim
            (λ before.
            let ends = ends k before in
            none_by M (suc (bits_before β U k + (u - k * β))) (β - (u - k * β)) (λ j a b. absurd (omega arith)))
            (λ same.
            let here : k ≡ n - 1 = omega arith in
            let at : suc k ≡ n = omega arith in
            let mixed_last = ap U (sym at) ∙ mixed in
            let end = sym (ended mixed_last) ∙ ⊎_elim (λ y. absurd (both_ways _ y (not_from_false _ mixed_last))) (λ e. e) (and_cases _ _ last) in
            (λ i. some_in M (bits_before β U (here i) + (u - here i * β)) (β - (u - here i * β))) ∙ end)
            (cases_lt (suc k) n))))

        right : (k : ℕ) → k < n → g k ≡ false
        right k l = ⊎_elim (λ y. sym (mix_on u β U M k y)) (λ m. and_right _ _ (not_from_true _ (fits k l m))) (cases_Bool (U (suc k)))

    -- the mixed blocks by their bits
    pub mixed_by : (bits count : ℕ) → bits ≡ bits_before β U count → count ≡ n → bits / β ≡ mixed_before U n
    mixed_by bits count e all =
        let none : mixed_before U n * β ≡ mixed_before U n * β + 0 = omega arith in
        ap (λ (x : ℕ). x / β) (e ∙ ap (bits_before β U) all ∙ none) ∙ block_at β (mixed_before U n) 0 (omega arith)

    pub past_few : U n ≡ false → past ≤ bits_before β U n
    past_few mixed = omega (arith, blocks_reach u β some, mixed_room β U (n - 1) n (omega (arith, at_last)) (ap U at_last ∙ mixed))
