-- The places of an opened index, block by block.
use Rattle.std.proofs.Common.{◌≡◌, ℕ, suc, ◌+◌, ◌*◌, ◌<◌, ◌≤◌, Bool, true, false, not, ◌&&◌, length, sym, refl, ap, ◌∙◌, ⊎_elim, mul-le-mul_right, suc-mul, arith}
use Rattle.std.proofs.lemmas.Bool.{cases_Bool, both_ways, cond-true, cond-false}
use Rattle.sets.specs.declared.Sort.{Sort}
use Rattle.sets.specs.declared.Sort.TheVariants.{Members, Others}
use Rattle.sets.proofs.Tests.{count_mono, count_le}
use Rattle.zombit.specs.Blocks.{mixed_before, bits_before}
use Rattle.zombit.specs.Lawful.{Place}
use Rattle.zombit.specs.Meant.{U, O, M, blocks, places, bays, sorted, block_has}
use Rattle.zombit.specs.declared.index.Zombit.{Zombit}
use Rattle.zombit.proofs.Room.{mixed_room}
use Rattle.zombit.proofs.Places.{bay_in_block, blocks_reach, blocks_cover}

module _ (z : Zombit) where
  pub some_size : 1 ≤ z.blocks.size
  some_size = omega (arith, z.blocks.blocked.0)

  pub places_cover : z.blocks.last ≤ places z
  places_cover = blocks_cover z.blocks.last z.blocks.size some_size

  pub places_few : places z ≤ z.blocks.last + z.blocks.size
  places_few = blocks_reach z.blocks.last z.blocks.size some_size

  -- block k ends among the places
  pub block_ends : (k : ℕ) → k < blocks z → k * z.blocks.size + z.blocks.size ≤ places z
  block_ends k h = omega (arith, mul-le-mul_right z.blocks.size h, suc-mul k z.blocks.size)

  before_le : (k : ℕ) → k ≤ blocks z → bits_before z.blocks.size (U z) k ≤ places z
  before_le k h =
      let few = count_le (λ j. not (U z j)) k in
      let l : mixed_before (U z) k ≤ blocks z = omega arith in
      mul-le-mul_right z.blocks.size l

  pub small_mixed : length z.mixed.now ≤ 16384
  small_mixed = omega (arith, z.whole_m, before_le (blocks z) (omega arith), places_few, z.blocks.sized.1, z.blocks.blocked.1)

  -- the bits of the first k blocks are in M
  pub before_within : (k : ℕ) → k ≤ blocks z → bits_before z.blocks.size (U z) k ≤ 8 * length z.mixed.now
  before_within k h = omega (arith, mul-le-mul_right z.blocks.size (count_mono (λ j. not (U z j)) k (blocks z) h), z.whole_m)

  -- a mixed block has its bits in M
  pub bits_within : (k : ℕ) → k < blocks z → U z (suc k) ≡ false → bits_before z.blocks.size (U z) k + z.blocks.size ≤ 8 * length z.mixed.now
  bits_within k h n = omega (arith, mixed_room z.blocks.size (U z) k (blocks z) h n, z.whole_m)

  -- ---- a place of block k

  pub bay_uniform : (k j : ℕ) → Place z.blocks.size j → U z (suc k) ≡ true → bays z (k * z.blocks.size + j) ≡ O z (suc k)
  bay_uniform k j p y = bay_in_block z.blocks.size k j (U z) (O z) (M z) p ∙ cond-true _ _ _ y

  pub bay_mixed : (k j : ℕ) → Place z.blocks.size j → U z (suc k) ≡ false → bays z (k * z.blocks.size + j) ≡ M z (bits_before z.blocks.size (U z) k + j)
  bay_mixed k j p n = bay_in_block z.blocks.size k j (U z) (O z) (M z) p ∙ cond-false _ _ _ n

  -- ---- blocks and sorts

  -- a block without the sort has no place of it
  pub lacks_all : (sort : Sort) (k j : ℕ) → k < blocks z → Place z.blocks.size j → block_has z sort (suc k) ≡ false → sorted z sort (k * z.blocks.size + j) ≡ false
  lacks_all Members k j h p e =
      ⊎_elim (λ y. bay_uniform k j p y ∙ e) (λ n. absurd (both_ways _ e (z.marks k (h, n)))) (cases_Bool (U z (suc k)))
  lacks_all Others k j h p e =
      let both = full (U z (suc k)) (O z (suc k)) e in
      ap not (bay_uniform k j p both.0 ∙ both.1)
    where
      full : (a b : Bool) → not (a && b) ≡ false → (a ≡ true) × (b ≡ true)
      full true true e = (refl, refl)
      full true false e = absurd (both_ways _ e refl)
      full false b e = absurd (both_ways _ e refl)

  -- and one with it has one
  pub has_some : (sort : Sort) (k : ℕ) → k < blocks z → block_has z sort (suc k) ≡ true → ((j : ℕ) → Place z.blocks.size j → sorted z sort (k * z.blocks.size + j) ≡ false) → ⊥
  has_some Members k h e none = ⊎_elim
      (λ y. both_ways _ (sym (bay_uniform k 1 (omega arith, some_size) y) ∙ none 1 (omega arith, some_size)) e)
      (λ n. z.ones k (h, n) (λ j p. sym (bay_mixed k j p n) ∙ none j p))
      (cases_Bool (U z (suc k)))
  has_some Others k h e none = ⊎_elim
      (λ y. both_ways _ (ap not (sym (bay_uniform k 1 (omega arith, some_size) y)) ∙ none 1 (omega arith, some_size)) (ap (λ b. not (b && O z (suc k))) (sym y) ∙ e))
      (λ n. z.zeros k (h, n) (λ j p. sym (bay_mixed k j p n) ∙ unturned _ (none j p)))
      (cases_Bool (U z (suc k)))
    where
      unturned : (b : Bool) → not b ≡ false → b ≡ true
      unturned true e = refl
      unturned false e = absurd (both_ways _ e refl)
