-- Lawful rows tell the set that they stand for, and rows that tell it are lawful.
use Rattle.std.proofs.Common.{◌≡◌, ℕ, suc, ◌+◌, ◌*◌, ◌<◌, ◌≤◌, Bool, true, false, ◌⊎◌, List, sym, ◌∙◌, inl, inr, ⊎_elim, arith}
use Rattle.std.proofs.lemmas.Bool.{cases_lt, cases_Bool, both_ways, cond-true, cond-false}
use Rattle.sets.specs.declared.Sort.TheVariants.{Members}
use Rattle.sets.specs.Made.{set_by}
use Rattle.sets.specs.Sets.{is_member}
use Rattle.sets.proofs.Made.{made_is, made_outside}
use Rattle.zombit.specs.Blocks.{blocks_of, in_block, bay_in}
use Rattle.zombit.specs.Lawful.{Mixed, Place, LawfulO, LawfulM}
use Rattle.zombit.specs.Told.{AllOf, UniformTold, MarkedTold, MixedTold, Told, LawfulTold}
use Rattle.zombit.proofs.Places.{bay_in_block}

module _ (u β : ℕ) (U O M : ℕ → Bool) (some : 1 ≤ β) where
  abbrev s : List Bool
  s = set_by u (bay_in β U O M)

  one : Place β 1
  one = (omega arith, some)

  inside : (k j : ℕ) → Place β j → k * β + j ≤ u → is_member s (k * β + j) ≡ in_block β U O M k j
  inside k j p l = made_is u (bay_in β U O M) Members (k * β + j) (omega (arith, p.0)) l ∙ bay_in_block β k j U O M p

  past : (k j : ℕ) → u < k * β + j → is_member s (k * β + j) ≡ false
  past k j l = made_outside u (bay_in β U O M) Members (k * β + j) l

  -- ---- lawful rows

  module _ (law_o : LawfulO u β U O) (law_m : LawfulM u β U M) where
    uniform_bay : (k j : ℕ) → k < blocks_of u β → Place β j → U (suc k) ≡ true → is_member s (k * β + j) ≡ O (suc k)
    uniform_bay k j h p y = ⊎_elim
        (λ out. past k j out ∙ sym (⊎_elim (λ o. absurd (omega (arith, law_o.1 k ((h, y), o), out, p.1))) (λ o. o) (cases_Bool (O (suc k)))))
        (λ in'. inside k j p in' ∙ cond-true _ _ _ y)
        (cases_lt u (k * β + j))

    mixed_bay : MixedTold u β s U M
    mixed_bay k m j p = ⊎_elim
        (λ out. law_m.2 k j (m, p, out) ∙ sym (past k j out))
        (λ in'. sym (inside k j p in' ∙ cond-false _ _ _ m.1))
        (cases_lt u (k * β + j))

    all_or_none : (k : ℕ) → k < blocks_of u β → U (suc k) ≡ true → AllOf s β k true ⊎ AllOf s β k false
    all_or_none k h y =
        ⊎_elim (λ o. inl (λ j p. uniform_bay k j h p y ∙ o)) (λ o. inr (λ j p. uniform_bay k j h p y ∙ o)) (cases_Bool (O (suc k)))

    mixed_some : (k : ℕ) → Mixed u β U k → (AllOf s β k false → ⊥) × (AllOf s β k true → ⊥)
    mixed_some k m = (λ all. law_m.0 k m (λ j p. mixed_bay k m j p ∙ all j p), λ all. law_m.1 k m (λ j p. mixed_bay k m j p ∙ all j p))

    uniforms : UniformTold u β s U
    uniforms k h = (
      all_or_none k h,
      λ all. ⊎_elim (λ y. y) (λ n. absurd (⊎_elim (mixed_some k (h, n)).1 (mixed_some k (h, n)).0 all)) (cases_Bool (U (suc k))),
    )

    marks : MarkedTold u β s O
    marks k h = (
      λ o none. ⊎_elim (λ y. both_ways _ (none 1 one) (uniform_bay k 1 h one y ∙ o)) (λ n. (mixed_some k (h, n)).0 none) (cases_Bool (U (suc k))),
      λ has. ⊎_elim
          (λ y. ⊎_elim (λ o. o) (λ o. absurd (has (λ j p. uniform_bay k j h p y ∙ o))) (cases_Bool (O (suc k))))
          (λ n. law_o.0 k (h, n))
          (cases_Bool (U (suc k))),
    )

    pub tells : Told u β s U O M
    tells = (uniforms, marks, mixed_bay)

  -- ---- rows that tell the set

  module _ (told : Told u β s U O M) where
    not_all : (k : ℕ) → Mixed u β U k → (b : Bool) → AllOf s β k b → ⊥
    not_all k m true all = both_ways _ m.1 ((told.0 k m.0).1 (inl all))
    not_all k m false all = both_ways _ m.1 ((told.0 k m.0).1 (inr all))

    pub lawful_marks : LawfulO u β U O
    lawful_marks = (
      λ k m. (told.1 k m.0).1 (not_all k m false),
      λ k m. ⊎_elim
          (λ out. absurd (⊎_elim
          (λ all. both_ways _ (past k β out) (all β (some, omega arith)))
          ((told.1 k m.0.0).0 m.1)
          ((told.0 k m.0.0).0 m.0.1)))
          (λ in'. in')
          (cases_lt u (k * β + β)),
    )

    pub lawful_bays : LawfulM u β U M
    lawful_bays = (
      λ k m none. not_all k m false (λ j p. sym (told.2 k m j p) ∙ none j p),
      λ k m all. not_all k m true (λ j p. sym (told.2 k m j p) ∙ all j p),
      λ k j m. told.2 k m.0 j m.1 ∙ past k j m.2,
    )

pub lawful_told : LawfulTold
lawful_told u β U O M size =
    let some : 1 ≤ β = omega (arith, size.0) in (
      λ law. tells u β U O M some law.0 law.1,
      λ told. (lawful_marks u β U O M some told, lawful_bays u β U O M some told),
    )
