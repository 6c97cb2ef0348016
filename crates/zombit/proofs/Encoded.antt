-- The rows of a set tell it, and no other rows do.
use Rattle.std.proofs.Common.{◌≡◌, ℕ, zero, suc, ◌+◌, ◌-◌, ◌*◌, ◌/◌, ◌%◌, ◌<◌, ◌≤◌, Bool, true, false, not, List, length, sym, refl, ap, ◌∙◌, inl, inr, ⊎_elim, mod-lt, arith}
use Rattle.std.proofs.lemmas.Bool.{cases_Bool, both_ways, cond-true, cond-false, and_cases, and_left, and_right, not-true, not-false, not_from_false}
use Rattle.sets.specs.Made.{set_by}
use Rattle.sets.specs.Sets.{is_member}
use Rattle.sets.proofs.Made.{made_again}
use Rattle.zombit.specs.Blocks.{blocks_of, bits_before, in_block, bay_in}
use Rattle.zombit.specs.Filling.{has_member, has_other, uniform_bit, marked_bit, mixed_bit}
use Rattle.zombit.specs.Lawful.{Place}
use Rattle.zombit.specs.Told.{AllOf, UniformTold, MarkedTold, Told}
use Rattle.zombit.proofs.Checked.{some_one, some_none}
use Rattle.zombit.proofs.Looked.{uniform_at, marked_at}
use Rattle.zombit.proofs.Mixing.{mixed_tells, bits_agree, in_mixed}
use Rattle.zombit.proofs.Places.{place, block_in}
use Rattle.zombit.proofs.Room.{mixed_room}

-- two tests that say yes of the same
same_by : (a b : Bool) → (a ≡ true → b ≡ true) → (b ≡ true → a ≡ true) → a ≡ b
same_by true true f g = refl
same_by true false f g = sym (f refl)
same_by false true f g = g refl
same_by false false f g = refl

-- ---- the rows of a set

module _ (β : ℕ) (s : List Bool) where
  abbrev f : ℕ → Bool
  f = is_member s

  abbrev g : ℕ → Bool
  g = λ i. not (is_member s i)

  uniform_told : UniformTold (length s) β s (uniform_bit β s)
  uniform_told k l = (
    λ e. ⊎_elim
        (λ none. inr (λ j p. some_none f (k * β) β none j p))
        (λ all. inl (λ j p. not-false _ (some_none g (k * β) β all j p)))
        (and_cases _ _ (not-true _ (sym (uniform_at β s k) ∙ e))),
    λ all. uniform_at β s k ∙ not_from_false _ (⊎_elim
        (λ yes'. and_right _ _ (none_other yes'))
        (λ no'. and_left _ _ (none_member no'))
        all),
  )
    where
      none_member : AllOf s β k false → has_member β s k ≡ false
      none_member none = ⊎_elim (λ e. absurd (some_one f (k * β) β e none)) (λ e. e) (cases_Bool (has_member β s k))

      none_other : AllOf s β k true → has_other β s k ≡ false
      none_other all = ⊎_elim (λ e. absurd (some_one g (k * β) β e (λ j p. ap not (all j p)))) (λ e. e) (cases_Bool (has_other β s k))

  marked_told : MarkedTold (length s) β s (marked_bit β s)
  marked_told k l = (
    λ e none. some_one f (k * β) β (sym (marked_at β s k) ∙ e) none,
    λ some. marked_at β s k ∙ ⊎_elim (λ e. e) (λ e. absurd (some (λ j p. some_none f (k * β) β e j p))) (cases_Bool (has_member β s k)),
  )

  pub rows_tell : Told (length s) β s (uniform_bit β s) (marked_bit β s) (mixed_bit β s)
  rows_tell = (uniform_told, marked_told, λ k m j p. mixed_tells β s k m.0 m.1 j p)

-- ---- rows that agree tell the same

module _ (u β : ℕ) (s : List Bool) (U O M V P N : ℕ → Bool) where
  abbrev n : ℕ
  n = blocks_of u β

  module _ (us : (i : ℕ) → 1 ≤ i → i ≤ n → V i ≡ U i) (os : (i : ℕ) → 1 ≤ i → i ≤ n → P i ≡ O i) (ms : (i : ℕ) → 1 ≤ i → i ≤ bits_before β U n → N i ≡ M i) where
    pub told_same : Told u β s U O M → Told u β s V P N
    told_same told = (
      λ k l. let e = us (suc k) (omega arith) l in (λ y. (told.0 k l).0 (sym e ∙ y), λ all. e ∙ (told.0 k l).1 all),
      λ k l. let e = os (suc k) (omega arith) l in (λ y. (told.1 k l).0 (sym e ∙ y), λ some. e ∙ (told.1 k l).1 some),
      λ k m j p.
          let e = us (suc k) (omega arith) m.0 in
          let mixed = sym e ∙ m.1 in
          let before = bits_agree β V U k (λ i a b. us i a (omega (arith, m.0))) in
          ap (λ (x : ℕ). N (x + j)) before ∙ ms (bits_before β U k + j) (omega (arith, p.0)) (omega (arith, mixed_room β U k n m.0 mixed, p.1))
          ∙ told.2 k (m.0, mixed) j p,
    )

  -- ---- rows that tell the same agree

  pub uniform_once : UniformTold u β s U → UniformTold u β s V → (i : ℕ) → 1 ≤ i → i ≤ n → U i ≡ V i
  uniform_once a b zero one l = absurd (omega arith)
  uniform_once a b (suc k) one l = same_by _ _ (λ y. (b k l).1 ((a k l).0 y)) (λ y. (a k l).1 ((b k l).0 y))

  pub marked_once : MarkedTold u β s O → MarkedTold u β s P → (i : ℕ) → 1 ≤ i → i ≤ n → O i ≡ P i
  marked_once a b zero one l = absurd (omega arith)
  marked_once a b (suc k) one l = same_by _ _ (λ y. (b k l).1 ((a k l).0 y)) (λ y. (a k l).1 ((b k l).0 y))

  pub mixed_once : 1 ≤ β → Told u β s U O M → Told u β s V P N → (i : ℕ) → 1 ≤ i → i ≤ bits_before β U n → M i ≡ N i
  mixed_once some a b i one l =
      let q = in_mixed β U n i some one l in
      let same = uniform_once a.0 b.0 in
      let before = bits_agree β U V q.block (λ j h t. same j h (omega (arith, t, q.within))) in
      let mixed = sym (same (suc q.block) (omega arith) q.within) ∙ q.mixed in
      ap M q.is ∙ a.2 q.block (q.within, q.mixed) q.at q.placed
      ∙ sym (b.2 q.block (q.within, mixed) q.at q.placed) ∙ ap (λ (x : ℕ). N (x + q.at)) (sym before) ∙ ap N (sym q.is)

-- ---- what rows that tell a set stand for

module _ (β : ℕ) (s : List Bool) (U O M : ℕ → Bool) (some : 1 ≤ β) (told : Told (length s) β s U O M) where
  abbrev u : ℕ
  u = length s

  abbrev t : List Bool
  t = set_by u (bay_in β U O M)

  one : Place β 1
  one = (omega arith, some)

  -- of a place of a block
  place_told : (k j : ℕ) → k < blocks_of u β → Place β j → in_block β U O M k j ≡ is_member s (k * β + j)
  place_told k j l p = ⊎_elim
      (λ y. cond-true _ _ _ y ∙ ⊎_elim
      (λ all. (told.1 k l).1 (λ none. both_ways _ (none 1 one) (all 1 one)) ∙ sym (all j p))
      (λ none. ⊎_elim (λ o. absurd ((told.1 k l).0 o none)) (λ o. o) (cases_Bool (O (suc k))) ∙ sym (none j p))
      ((told.0 k l).0 y))
      (λ no'. cond-false _ _ _ no' ∙ told.2 k (l, no') j p)
      (cases_Bool (U (suc k)))

  bay_told : (i : ℕ) → 1 ≤ i → i ≤ u → bay_in β U O M i ≡ is_member s i
  unfolding bay_in
  bay_told i first last =
      let k = (i - 1) / β in
      let low = mod-lt (i - 1) some in
      let at : k * β + suc ((i - 1) % β) ≡ i = omega (arith, place β (i - 1), first) in
      let inside : k * β < u = omega (arith, place β (i - 1), first, last) in
      place_told k (suc ((i - 1) % β)) (block_in u β k some inside) (omega arith, omega (arith, low)) ∙ ap (is_member s) at

  pub set_told : t ≡ s
  set_told = made_again s (bay_in β U O M) bay_told
