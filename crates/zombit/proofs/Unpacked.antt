-- The bits of the bays of one more block.
use Rattle.std.proofs.Common.{◌≡◌, ℕ, suc, ◌+◌, ◌-◌, ◌*◌, ◌/◌, ◌%◌, ◌<◌, ◌≤◌, min, max, Bool, true, false, not, Some, None, ◌&&◌, ◌||◌, leb, List, ◌++◌, length, append-nil, get_or, replicate, refl, sym, ap, ◌∙◌, ⊎_elim, mod-lt, suc-mul, mul-le-mul_right, arith}
use Rattle.std.proofs.lemmas.Bool.{cases_lt, both_ways, le-leb, lt-leb, lt-ltb, le-ltb, and_from, and_left, and_right}
use Rattle.std.proofs.lemmas.List.{drop_all, get_or-replicate, length-replicate}
use Rattle.sets.specs.declared.Sort.TheVariants.{Members}
use Rattle.sets.specs.Lists.{over}
use Rattle.sets.specs.Packing.{bytes_for, value_of, pack, member_after}
use Rattle.std.proofs.Math.Nat.{add-mul}
use Rattle.sets.proofs.Tests.{FirstIs}
use Rattle.sets.proofs.Made.{made_is, made_outside}
use Rattle.sets.proofs.Packing.{pack_length, packed_whole}
use Rattle.bits.specs.Rows.{run, moved}
use Rattle.bits.proofs.Packing.{pack_same}
use Rattle.zombit.specs.Blocks.{mixed_before}
use Rattle.zombit.specs.Meant.{U, O, M, bays, blocks, meaning, bits_before_block, MixedAt}
use Rattle.zombit.specs.declared.index.Zombit.{Zombit}
use Rattle.zombit.proofs.Counted.{count_all}
use Rattle.zombit.proofs.Indexed.{some_size, bay_uniform, bay_mixed}
use Rattle.zombit.proofs.Places.{place}
use Rattle.zombit.proofs.Added.{row_added}

-- a row that fills the memory has nothing behind it
pub over_whole : (n : ℕ) (f : ℕ → Bool) (old : List ℕ) → bytes_for n ≡ length old → over (pack n f) old ≡ pack n f
over_whole n f old long = ap (λ rest. pack n f ++ rest) (drop_all _ old (omega (arith, long, pack_length n f))) ∙ append-nil (pack n f)

-- a memory that is written anew as a whole, and one that was
pub whole_new : (f g : ℕ → Bool) (old new : List ℕ) → length new ≡ length old → new ≡ over (pack (8 * length old) f) old
    → pack (8 * length old) f ≡ pack (8 * length old) g → new ≡ pack (8 * length new) g
whole_new f g old new long e same =
    e ∙ over_whole (8 * length old) f old (omega arith) ∙ same ∙ ap (λ (n : ℕ). pack (8 * n) g) (sym long)

pub whole_old : (f : ℕ → Bool) (old : List ℕ) → old ≡ pack (8 * length old) f → old ≡ over (pack (8 * length old) f) old
whole_old f old e = e ∙ sym (over_whole (8 * length old) f old (omega arith))

-- ---- blocks whose bays are known

module _ (z : Zombit) where
  abbrev β : ℕ
  β = z.blocks.size

  -- from block k on, up to place e
  module _ (k e before end n : ℕ) (reach : k * β ≤ e) (low : before ≤ e) (high : k * β ≤ end) (order : before ≤ end) (stop : end ≡ min z.blocks.last (before + n)) where
    abbrev row : ℕ → Bool
    row = member_after (meaning z) before

    -- a bay, and what lies past the end
    bay : (j : ℕ) → before + j ≤ end → k * β < before + j → row j ≡ bays z (before + j)
    bay j inside past = made_is z.blocks.last (bays z) Members (before + j) (omega arith) (omega arith)

    none : (j : ℕ) → j ≤ n → end < before + j → row j ≡ false
    none j last past = made_outside z.blocks.last (bays z) Members (before + j) (omega arith)

    pub added_bare : ((b : ℕ) → k * β < b → b ≤ e → bays z b ≡ false) → pack n (λ j. leb (before + j) (k * β) && row j) ≡ pack n (λ j. leb (before + j) e && row j)
    added_bare bare = row_added row (λ j. false) (λ j. before + j) n (k * β) e (omega arith)
        (λ j one last l i. false)
        (λ j one last g l. ⊎_elim (λ past. sym (none j last past)) (λ inside. sym (bay j inside g ∙ bare (before + j) g l)) (cases_lt end (before + j)))
        (λ j one last g i. false)

    module _ (first from to : ℕ) (begin : first ≡ k * β) (start : from ≡ max before first) (finish : to ≡ min end e) where
      pub added_all : ((b : ℕ) → k * β < b → b ≤ e → bays z b ≡ true)
          → pack n (λ j. run (from - before + 1) (to - before) j || (leb (before + j) (k * β) && row j)) ≡ pack n (λ j. leb (before + j) e && row j)
      added_all all = row_added row (run (from - before + 1) (to - before)) (λ j. before + j) n (k * β) e (omega arith)
          (λ j one last l. and_left _ _ (lt-leb (from - before + 1) j (omega arith)))
          (λ j one last g l. ⊎_elim
          (λ past. and_right _ _ (lt-leb j (to - before) (omega arith)) ∙ sym (none j last past))
          (λ inside.
          and_from _ _ (le-leb (from - before + 1) j (omega arith)) (le-leb j (to - before) (omega arith))
          ∙ sym (bay j inside g ∙ all (before + j) g l))
          (cases_lt end (before + j)))
          (λ j one last g. and_right _ _ (lt-leb j (to - before) (omega arith)))

      pub added_mixed : (bits : ℕ) → ((b : ℕ) → k * β < b → b ≤ e → bays z b ≡ M z (bits + (b - k * β)))
          → pack n (λ j. moved (from - before) (to - from) (M z) (bits + (from - first)) j || (leb (before + j) (k * β) && row j))
          ≡ pack n (λ j. leb (before + j) e && row j)
      added_mixed bits mixed = row_added row (moved (from - before) (to - from) (M z) (bits + (from - first))) (λ j. before + j) n (k * β) e (omega arith)
          (λ j one last l. and_left _ _ (and_left _ _ (le-ltb (from - before) j (omega arith))))
          (λ j one last g l. ⊎_elim
          (λ past. and_left _ _ (and_right _ _ (lt-leb j (from - before + (to - from)) (omega arith))) ∙ sym (none j last past))
          (λ inside.
          let same : bits + (from - first) + (j - (from - before)) ≡ bits + (before + j - k * β) = omega arith in
          (λ i. (lt-ltb (from - before) j (omega arith) i && le-leb j (from - before + (to - from)) (omega arith) i) && M z (same i))
          ∙ sym (bay j inside g ∙ mixed (before + j) g l))
          (cases_lt end (before + j)))
          (λ j one last g. and_left _ _ (and_right _ _ (lt-leb j (from - before + (to - from)) (omega arith))))

  -- ---- the bays of a uniform block

  pub block_bay : (k : ℕ) (o : Bool) → U z (suc k) ≡ true → O z (suc k) ≡ o → (b : ℕ) → k * β < b → b ≤ k * β + β → bays z b ≡ o
  block_bay k o uniform marked b low high =
      let same : b ≡ k * β + (b - k * β) = omega arith in
      ap (bays z) same ∙ bay_uniform z k (b - k * β) (omega arith, omega arith) uniform ∙ marked

  -- ---- the bays of mixed blocks

  abbrev MixedRun : ℕ → ℕ → Type 0
  MixedRun k q = (i : ℕ) → k ≤ i → i < q → MixedAt z i

  run_count : (k q : ℕ) → k ≤ q → MixedRun k q → mixed_before (U z) q ≡ mixed_before (U z) k + (q - k)
  run_count k q order mixed =
      let same : k + (q - k) ≡ q = omega arith in
      ap (mixed_before (U z)) (sym same) ∙ count_all (λ j. not (U z j)) k (q - k) (λ j l h.
      let at : k + j ≡ suc (k + (j - 1)) = omega arith in ap (λ x. not (U z x)) at ∙ ap not (mixed (k + (j - 1)) (omega arith) (omega arith)))

  -- by the next bit that is 1
  pub run_some : (k q : ℕ) → MixedAt z k → FirstIs (U z) (k + 1) (suc (blocks z) - (k + 1)) (Some q) → (k < q - 1) × (q - 1 ≤ blocks z) × MixedRun k (q - 1)
  run_some k q mixed law =
      let next : suc k ≡ k + 1 = omega arith in
      let other : (q ≡ k + 1) → ⊥ = λ e. both_ways _ mixed (ap (U z) (next ∙ sym e) ∙ law.2) in
      (omega (arith, law.0, other), omega (arith, law.0, law.1), λ i l h. law.3 (suc i) (omega arith) (omega (arith, h)))

  pub run_none : (k : ℕ) → FirstIs (U z) (k + 1) (suc (blocks z) - (k + 1)) None → MixedRun k (blocks z)
  run_none k law = λ i l h. law (suc i) (omega arith) (omega arith)

  pub run_bits : (k q : ℕ) → k ≤ q → MixedRun k q → bits_before_block z q ≡ bits_before_block z k + (q - k) * β
  run_bits k q order mixed = ap (λ (x : ℕ). x * β) (run_count k q order mixed) ∙ add-mul (mixed_before (U z) k) (q - k) β

  pub run_bay : (k q : ℕ) → k ≤ q → MixedRun k q → (b : ℕ) → k * β < b → b ≤ q * β → bays z b ≡ M z (bits_before_block z k + (b - k * β))
  run_bay k q order mixed b low high =
      let i = (b - 1) / β in
      let r = (b - 1) % β in
      let small : r < β = mod-lt (b - 1) (some_size z) in
      let whole : i * β + r ≡ b - 1 = place β (b - 1) in
      let above : k ≤ i = ⊎_elim (λ less. absurd (omega (arith, mul-le-mul_right β less, suc-mul i β, small, whole, low))) (λ l. l) (cases_lt i k) in
      let below : i < q = ⊎_elim (λ l. l) (λ more. absurd (omega (arith, mul-le-mul_right β more, whole, low, high))) (cases_lt i q) in
      let same : b ≡ i * β + suc r = omega (arith, whole, low) in
      let split : i ≡ k + (i - k) = omega (arith, above) in
      let parts = ap (λ (x : ℕ). x * β) split ∙ add-mul k (i - k) β in
      let bits = run_bits k i above (λ j l h. mixed j l (omega (arith, h, below))) in
      ap (bays z) same ∙ bay_mixed z i (suc r) (omega arith, omega (arith, small)) (mixed i above below)
      ∙ ap (M z) (let e : bits_before_block z i + suc r ≡ bits_before_block z k + (b - k * β) = omega (arith, bits, parts, same) in e)

-- ---- none of the bits, and all of them

none_value : (p : ℕ) → value_of (λ i. false) p 8 ≡ 0
unfolding value_of
none_value p = refl

pub packed_none : (n : ℕ) (bytes : List ℕ) → bytes ≡ replicate n 0 → bytes ≡ pack (8 * length bytes) (λ i. false)
packed_none n bytes e = packed_whole (λ i. false) bytes (λ j l.
    ap (λ xs. get_or xs j 0) e ∙ get_or-replicate n j 0 0 (omega (arith, l, ap length e, length-replicate {A = ℕ} n 0)) ∙ sym (none_value (8 * j)))

module _ (z : Zombit) (before n : ℕ) where
  pub row_none : z.blocks.last ≤ before → pack n (λ i. false) ≡ pack n (member_after (meaning z) before)
  row_none past = pack_same n _ _ (λ j one l. sym (made_outside z.blocks.last (bays z) Members (before + j) (omega arith)))

  pub row_begun : (p : ℕ) → p ≤ before → pack n (λ i. false) ≡ pack n (λ j. leb (before + j) p && member_after (meaning z) before j)
  row_begun p low = pack_same n _ _ (λ j one l. sym (and_left _ _ (lt-leb (before + j) p (omega arith))))

  pub row_done : (p : ℕ) → min z.blocks.last (before + n) ≤ p → pack n (λ j. leb (before + j) p && member_after (meaning z) before j) ≡ pack n (member_after (meaning z) before)
  row_done p high = pack_same n _ _ (λ j one l. ⊎_elim
      (λ past. let none = made_outside z.blocks.last (bays z) Members (before + j) (omega arith) in and_right _ _ none ∙ sym none)
      (λ upto. ap (λ b. b && member_after (meaning z) before j) (le-leb (before + j) p upto))
      (cases_lt p (before + j)))
