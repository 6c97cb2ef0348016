-- What is found in a block, and what is not.
use Rattle.std.proofs.Common.{◌≡◌, ℕ, suc, ◌+◌, ◌-◌, ◌*◌, ◌/◌, ◌%◌, ◌<◌, ◌≤◌, Bool, true, false, Some, None, Option, nat_lt, sym, refl, ap, ◌∙◌, subst, inl, inr, mul-le-mul_right, mod-lt, suc-mul, div-lt_iff_lt-mul, le-div_iff_mul-le, zero-mul, arith}
use Rattle.std.specs.Option.{option_map}
use Rattle.std.proofs.lemmas.Bool.{cond_both, ltb-true, ltb-false}
use Rattle.std.proofs.lemmas.Map.Entries.{option_filter}
use Rattle.sets.specs.declared.Sort.{Sort}
use Rattle.sets.specs.Sets.{fits}
use Rattle.sets.specs.Search.{first_from, last_to}
use Rattle.sets.proofs.Tests.{FirstIs, LastIs, first_law, first_by, last_law, last_by}
use Rattle.bits.specs.Bits.{is_bit}
use Rattle.zombit.specs.Lawful.{Place}
use Rattle.zombit.specs.Meant.{blocks, places, sorted, block_has, bits_before_block, MixedAt, BitOf, KindIs, InBlock, first_place, FirstTo, LastAfter}
use Rattle.zombit.specs.declared.index.Zombit.{Zombit}
use Rattle.zombit.specs.declared.kind.Kind.TheVariants.{All, Bare}
use Rattle.zombit.proofs.Indexed.{some_size, block_ends, bay_mixed, lacks_all, has_some}
use Rattle.zombit.proofs.Places.{place}
use Rattle.zombit.proofs.Skips.{first_is, last_is, first_hit, first_skip, last_hit, last_skip}

module _ (z : Zombit) (sort : Sort) where
  abbrev β : ℕ
  β = z.blocks.size

  -- ---- block k

  module _ (k : ℕ) where
    -- a place of the block by its number
    at_place : (b : Bool) (from to : ℕ) → ((j : ℕ) → Place β j → from ≤ j → j ≤ to → sorted z sort (k * β + j) ≡ b)
        → (p : ℕ) → k * β < p → p ≤ k * β + β → k * β + from ≤ p → p ≤ k * β + to → sorted z sort p ≡ b
    at_place b from to h p low high l g =
        let e : k * β + (p - k * β) ≡ p = omega arith in
        ap (sorted z sort) (sym e) ∙ h (p - k * β) (omega arith, omega arith) (omega arith) (omega arith)

    first_all : (at : ℕ) → k < blocks z → Place β at → KindIs z sort k All → FirstTo z sort (k * β + at) (k * β + β) (Some (k * β + at))
    first_all at h p all = first_hit (sorted z sort) _ (places z) _ (omega arith) (omega (arith, block_ends z k h, p.1)) (all at p) (λ j l g. absurd (omega arith))

    first_bare : (at : ℕ) → Place β at → KindIs z sort k Bare → FirstTo z sort (k * β + at) (k * β + β) None
    first_bare at p none =
        let low = p.0 in
        let high = p.1 in
        first_skip (sorted z sort) _ _ (places z) (omega arith) (λ j l g. at_place false at β (λ i q a b. none i q) j (omega arith) (omega arith) l g)

    last_all : (at : ℕ) → Place β at → KindIs z sort k All → LastAfter z sort (k * β) (k * β + at) (Some (k * β + at))
    last_all at p all = let low = p.0 in last_hit (sorted z sort) _ _ (omega arith) (omega arith) (all at p) (λ j l g. absurd (omega arith))

    last_bare : (at : ℕ) → Place β at → KindIs z sort k Bare → LastAfter z sort (k * β) (k * β + at) None
    last_bare at p none =
        let low = p.0 in
        let high = p.1 in
        last_skip (sorted z sort) _ _ (omega arith) (λ j l g. at_place false 1 at (λ i q a b. none i q) j l (omega arith) (omega arith) g)

    -- its bits in M where it is mixed
    abbrev bits : ℕ → Bool
    bits = is_bit z.mixed.now sort

    abbrev a : ℕ
    a = bits_before_block z k

    pub as_bit : MixedAt z k → (j : ℕ) → Place β j → sorted z sort (k * β + j) ≡ bits (a + j)
    as_bit n j p = ap (fits sort) (bay_mixed z k j p n)

    -- ---- the first place of the block from place at on, and the last up to it

    module _ (at : ℕ) (p : Place β at) where
      low : 1 ≤ at
      low = p.0

      high : at ≤ β
      high = p.1

      pub first_inside : (q : ℕ) → Some q ≡ first_from bits (a + at) (suc (a + β) - (a + at)) → BitOf z k q
      first_inside q e = let law = first_is bits _ _ (Some q) e in (omega (arith, law.0, low), omega (arith, law.1, high))

      first_mixed : k < blocks z → MixedAt z k → (r : Option ℕ) → r ≡ first_from bits (a + at) (suc (a + β) - (a + at))
          → FirstTo z sort (k * β + at) (k * β + β) (option_map (λ q. k * β + (q - a)) r)
      first_mixed h n None e =
          let law = first_is bits _ _ None e in
          first_skip (sorted z sort) _ _ (places z) (omega (arith, high))
          (λ j l g. at_place false at β (λ i b c d. as_bit n i b ∙ law (a + i) (omega arith) (omega arith)) j (omega (arith, low)) (omega arith) l g)
      first_mixed h n (Some q) e =
          let law = first_is bits _ _ (Some q) e in
          let in' = first_inside q e in
          let same : a + (q - a) ≡ q = omega (arith, in'.0) in
          let here : Place β (q - a) = (omega (arith, in'.0), omega (arith, in'.1)) in
          first_hit (sorted z sort) _ (places z) _ (omega (arith, law.0)) (omega (arith, block_ends z k h, here.1)) (as_bit n (q - a) here ∙ ap bits same ∙ law.2)
          (λ j l g. at_place false at (q - a - 1) (λ i b c d. as_bit n i b ∙ law.3 (a + i) (omega arith) (omega (arith, in'.0, b.0))) j (omega (arith, low)) (omega (arith, here.1)) l (omega arith))

      -- what was found of the sort in the block, where it was looked for among the bits of M
      pub first_in : k < blocks z → (Found : Option ℕ → Type 0) → ((b : Option ℕ) → Found b → b ≡ first_from bits (a + at) (suc (a + β) - (a + at)))
          → (r : Option ℕ) → InBlock z sort k at Found r → FirstTo z sort (k * β + at) (k * β + β) r
      first_in h Found seen r (inl all) = subst (FirstTo z sort (k * β + at) (k * β + β)) (sym all.1) (first_all at h p all.0)
      first_in h Found seen r (inr (inl none)) = subst (FirstTo z sort (k * β + at) (k * β + β)) (sym none.1) (first_bare at p none.0)
      first_in h Found seen r (inr (inr mixed)) =
          subst (FirstTo z sort (k * β + at) (k * β + β)) (sym mixed.3) (first_mixed h mixed.0 mixed.1 (seen mixed.1 mixed.2))

      pub last_inside : (q : ℕ) → a < q → Some q ≡ last_to bits (a + at) → BitOf z k q
      last_inside q more e = let law = last_is bits _ (Some q) e in (more, omega (arith, law.1, high))

      -- none of the bits behind the first a
      last_gone : MixedAt z k → ((j : ℕ) → a < j → j ≤ a + at → bits j ≡ false) → LastAfter z sort (k * β) (k * β + at) None
      last_gone n none =
          last_skip (sorted z sort) _ _ (omega arith)
          (λ j l g. at_place false 1 at (λ i b c d. as_bit n i b ∙ none (a + i) (omega (arith, b.0)) (omega arith)) j l (omega (arith, high)) (omega arith) g)

      last_mixed : MixedAt z k → (r : Option ℕ) → r ≡ last_to bits (a + at)
          → LastAfter z sort (k * β) (k * β + at) (option_map (λ q. k * β + (q - a)) (option_filter (λ q. nat_lt a q) r))
      last_mixed n None e = let law = last_is bits _ None e in last_gone n (λ j l g. law j (omega arith) g)
      last_mixed n (Some q) e =
          let law = last_is bits _ (Some q) e in
          cond_both (nat_lt a q) (Some q) None (λ t. LastAfter z sort (k * β) (k * β + at) (option_map (λ q. k * β + (q - a)) t))
          (λ more.
          let in' = last_inside q (ltb-true a q more) e in
          let same : a + (q - a) ≡ q = omega (arith, in'.0) in
          let here : Place β (q - a) = (omega (arith, in'.0), omega (arith, in'.1)) in
          last_hit (sorted z sort) _ _ (omega (arith, here.0)) (omega (arith, law.1)) (as_bit n (q - a) here ∙ ap bits same ∙ law.2)
          (λ j l g. at_place false (suc (q - a)) at (λ i b c d. as_bit n i b ∙ law.3 (a + i) (omega arith) (omega arith)) j (omega (arith, here.0)) (omega (arith, high)) (omega arith) g))
          (λ less. let before = ltb-false a q less in last_gone n (λ j l g. law.3 j (omega arith) g))

      pub last_in : (Found : Option ℕ → Type 0) → ((b : Option ℕ) → Found b → b ≡ option_filter (λ q. nat_lt a q) (last_to bits (a + at)))
          → (r : Option ℕ) → InBlock z sort k at Found r → LastAfter z sort (k * β) (k * β + at) r
      last_in Found seen r (inl all) = subst (LastAfter z sort (k * β) (k * β + at)) (sym all.1) (last_all at p all.0)
      last_in Found seen r (inr (inl none)) = subst (LastAfter z sort (k * β) (k * β + at)) (sym none.1) (last_bare at p none.0)
      last_in Found seen r (inr (inr mixed)) =
          subst (LastAfter z sort (k * β) (k * β + at)) (sym (mixed.3 ∙ ap (option_map (λ q. k * β + (q - a))) (seen mixed.1 mixed.2)))
          (last_mixed mixed.0 _ refl)

  -- ---- blocks in a row

  -- none of the blocks a to q - 1 has the sort
  abbrev Lacking : ℕ → ℕ → Type 0
  Lacking a q = (t : ℕ) → a ≤ t → t < q → block_has z sort (suc t) ≡ false

  lacks_row : (a q : ℕ) → q ≤ blocks z → Lacking a q → (p : ℕ) → a * β < p → p ≤ q * β → sorted z sort p ≡ false
  lacks_row a q within none p low high =
      let t = (p - 1) / β in
      let e = place β (p - 1) in
      let same : t * β + suc ((p - 1) % β) ≡ p = omega arith in
      let from = (le-div_iff_mul-le {k = β} {x = a} {y = p - 1} (some_size z)).1 (omega arith) in
      let to = (div-lt_iff_lt-mul {k = β} {x = p - 1} {y = q} (some_size z)).1 (omega arith) in
      let short = mod-lt (p - 1) (some_size z) in
      ap (sorted z sort) (sym same) ∙ lacks_all z sort t (suc ((p - 1) % β)) (omega arith) (omega arith, short) (none t from to)

  -- a block that has the sort has a place of it
  has_one : (k : ℕ) → k < blocks z → block_has z sort (suc k) ≡ true → ((p : ℕ) → k * β < p → p ≤ k * β + β → sorted z sort p ≡ false) → ⊥
  has_one k h e none = has_some z sort k h e (λ j p. let low = p.0 in let high = p.1 in none (k * β + j) (omega arith) (omega arith))

  first_goes_on : (p e : ℕ) → p ≤ suc e → e ≤ places z → first_place z sort p ≡ first_place z sort (suc e) → (j : ℕ) → p ≤ j → j ≤ e → sorted z sort j ≡ false
  first_goes_on p e low high same j l g = clear (first_place z sort (suc e)) (first_law (sorted z sort) (suc e) _) (first_is (sorted z sort) p _ _ (sym same))
    where
      clear : (r : Option ℕ) → FirstIs (sorted z sort) (suc e) (suc (places z) - suc e) r → FirstIs (sorted z sort) p (suc (places z) - p) r → sorted z sort j ≡ false
      clear None later here = here j l (omega arith)
      clear (Some q) later here = let more = later.0 in here.3 j l (omega arith)

  -- the block with bit m is the first that has the sort from block k on
  pub first_jump : (k m : ℕ) (r : Option ℕ) → Some m ≡ first_from (block_has z sort) (k + 1) (suc (blocks z) - (k + 1))
      → FirstTo z sort ((m - 1) * β + 1) ((m - 1) * β + β) r → r ≡ first_place z sort (suc (k * β))
  first_jump k m r e found =
      let law = first_is (block_has z sort) (k + 1) (suc (blocks z) - (k + 1)) (Some m) e in
      let low = law.0 in
      let high = law.1 in
      let one : (m - 1) * β + 1 ≡ suc ((m - 1) * β) = omega arith in
      let bit : suc (m - 1) ≡ m = omega arith in
      let up : k ≤ m - 1 = omega arith in
      let more = mul-le-mul_right β up in
      let skip = first_skip (sorted z sort) (suc (k * β)) ((m - 1) * β) (places z) (omega arith)
      (λ j l g. lacks_row k (m - 1) (omega arith) (λ t a b. law.3 (suc t) (omega arith) (omega arith)) j l g) in
      seen r found (ap (first_place z sort) one) skip (has_one (m - 1) (omega arith) (ap (block_has z sort) bit ∙ law.2)) (block_ends z (m - 1) (omega arith))
    where
      seen : (r : Option ℕ) → FirstTo z sort ((m - 1) * β + 1) ((m - 1) * β + β) r → first_place z sort ((m - 1) * β + 1) ≡ first_place z sort (suc ((m - 1) * β))
          → first_place z sort (suc (k * β)) ≡ first_place z sort (suc ((m - 1) * β))
          → (((p : ℕ) → (m - 1) * β < p → p ≤ (m - 1) * β + β → sorted z sort p ≡ false) → ⊥) → (m - 1) * β + β ≤ places z → r ≡ first_place z sort (suc (k * β))
      seen (Some q) found one skip some end = sym found ∙ one ∙ sym skip
      seen None found one skip some end =
          absurd (some (λ p l g. first_goes_on ((m - 1) * β + 1) ((m - 1) * β + β) (omega (arith, some_size z)) end found p (omega arith) g))

  pub first_end : (k : ℕ) → None ≡ first_from (block_has z sort) (k + 1) (suc (blocks z) - (k + 1)) → None ≡ first_place z sort (suc (k * β))
  first_end k e =
      let law = first_is (block_has z sort) (k + 1) (suc (blocks z) - (k + 1)) None e in
      first_by (sorted z sort) (suc (k * β)) _ None
      (λ j l g. lacks_row k (blocks z) (omega arith) (λ t a b. law (suc t) (omega arith) (omega arith)) j l (omega arith))

  last_goes_on : (s p : ℕ) → last_to (sorted z sort) p ≡ last_to (sorted z sort) s → (j : ℕ) → s < j → j ≤ p → sorted z sort j ≡ false
  last_goes_on s p same j l g = clear (last_to (sorted z sort) s) (last_law (sorted z sort) s) (last_is (sorted z sort) p _ (sym same))
    where
      clear : (r : Option ℕ) → LastIs (sorted z sort) s r → LastIs (sorted z sort) p r → sorted z sort j ≡ false
      clear None earlier here = here j (omega arith) g
      clear (Some q) earlier here = let less = earlier.1 in here.3 j (omega arith) g

  -- the block with bit m is the last that has the sort among the first k
  pub last_jump : (k m : ℕ) (r : Option ℕ) → k ≤ blocks z → Some m ≡ last_to (block_has z sort) k
      → LastAfter z sort ((m - 1) * β) ((m - 1) * β + β) r → r ≡ last_to (sorted z sort) (k * β)
  last_jump k m r within e found =
      let law = last_is (block_has z sort) k (Some m) e in
      let low = law.0 in
      let high = law.1 in
      let bit : suc (m - 1) ≡ m = omega arith in
      let ends : (m - 1) * β + β ≡ m * β = omega (arith, suc-mul (m - 1) β, ap (λ (x : ℕ). x * β) bit) in
      let more = mul-le-mul_right β high in
      let skip = last_skip (sorted z sort) (m * β) (k * β) (omega arith)
      (λ j l g. lacks_row m k within (λ t a b. law.3 (suc t) (omega arith) b) j l g) in
      seen r found (ap (last_to (sorted z sort)) ends) skip (has_one (m - 1) (omega arith) (ap (block_has z sort) bit ∙ law.2))
    where
      seen : (r : Option ℕ) → LastAfter z sort ((m - 1) * β) ((m - 1) * β + β) r → last_to (sorted z sort) ((m - 1) * β + β) ≡ last_to (sorted z sort) (m * β)
          → last_to (sorted z sort) (k * β) ≡ last_to (sorted z sort) (m * β)
          → (((p : ℕ) → (m - 1) * β < p → p ≤ (m - 1) * β + β → sorted z sort p ≡ false) → ⊥) → r ≡ last_to (sorted z sort) (k * β)
      seen (Some q) found ends skip some = sym found ∙ ends ∙ sym skip
      seen None found ends skip some = absurd (some (λ p l g. last_goes_on ((m - 1) * β) ((m - 1) * β + β) found p l g))

  pub last_end : (k : ℕ) → k ≤ blocks z → None ≡ last_to (block_has z sort) k → None ≡ last_to (sorted z sort) (k * β)
  last_end k within e =
      let law = last_is (block_has z sort) k None e in
      last_by (sorted z sort) (k * β) None
      (λ j l g. lacks_row 0 k within (λ t a b. law (suc t) (omega arith) b) j (omega (arith, zero-mul β)) g)
