-- The places of a sort counted by the rows.
use Rattle.std.proofs.Common.{◌≡◌, ℕ, zero, suc, ◌+◌, ◌-◌, ◌*◌, ◌<◌, ◌≤◌, Bool, true, false, not, leb, Some, None, Option, sym, ap, ◌∙◌, subst, inl, inr, ⊎_elim, mul-le-mul_right, suc-mul, zero-mul, arith}
use Rattle.std.proofs.lemmas.Bool.{cases_Bool, cases_lt, cond_both, leb-true, leb-false}
use Rattle.std.specs.Option.{option_map}
use Rattle.sets.specs.declared.Sort.{Sort}
use Rattle.sets.specs.declared.Sort.TheVariants.{Members}
use Rattle.sets.specs.Search.{count_to, kth_to}
use Rattle.sets.proofs.Tests.{KthIs, kth_law, kth_by, count_none, count_here, count_on, count_mono, count_less, count_without}
use Rattle.bits.specs.Bits.{is_bit}
use Rattle.zombit.specs.Blocks.{mixed_before, bits_before}
use Rattle.zombit.specs.Lawful.{Place}
use Rattle.zombit.specs.Meant.{U, O, M, blocks, places, bays, sorted, bits_before_block, MixedAt, BitOf, KindIs, InBlock, cut_at}
use Rattle.zombit.specs.declared.index.Zombit.{Zombit}
use Rattle.zombit.specs.declared.kind.Kind.TheVariants.{All, Bare}
use Rattle.zombit.proofs.Found.{as_bit}
use Rattle.zombit.proofs.Indexed.{block_ends, bay_uniform, bay_mixed}

-- one row follows another for n numbers
count_along : (f g : ℕ → Bool) (a c n : ℕ) → ((j : ℕ) → 1 ≤ j → j ≤ n → f (a + j) ≡ g (c + j)) → count_to f (a + n) + count_to g c ≡ count_to g (c + n) + count_to f a
count_along f g a c zero h =
    let x : a + zero ≡ a = omega arith in
    let y : c + zero ≡ c = omega arith in
    omega (arith, ap (count_to f) x, ap (count_to g) y)
count_along f g a c (suc n) h =
    let ih = count_along f g a c n (λ j l k. h j l (omega arith)) in
    let x : a + suc n ≡ suc (a + n) = omega arith in
    let y : c + suc n ≡ suc (c + n) = omega arith in
    let p = ap (count_to f) x in
    let q = ap (count_to g) y in
    let same = ap f (sym x) ∙ h (suc n) (omega arith) (omega arith) ∙ ap g y in
    ⊎_elim
    (λ e. omega (arith, ih, p, q, count_here f (a + n) e, count_here g (c + n) (sym same ∙ e)))
    (λ e. omega (arith, ih, p, q, count_on f (a + n) e, count_on g (c + n) (sym same ∙ e)))
    (cases_Bool (f (suc (a + n))))

-- all of n numbers pass
pub count_all : (f : ℕ → Bool) (a n : ℕ) → ((j : ℕ) → 1 ≤ j → j ≤ n → f (a + j) ≡ true) → count_to f (a + n) ≡ count_to f a + n
count_all f a zero h = let x : a + zero ≡ a = omega arith in omega (arith, ap (count_to f) x)
count_all f a (suc n) h =
    let x : a + suc n ≡ suc (a + n) = omega arith in
    let here = count_here f (a + n) (ap f (sym x) ∙ h (suc n) (omega arith) (omega arith)) in
    omega (arith, ap (count_to f) x, here, count_all f a n (λ j l k. h j l (omega arith)))

-- none of them does
count_bare : (f : ℕ → Bool) (a n : ℕ) → ((j : ℕ) → 1 ≤ j → j ≤ n → f (a + j) ≡ false) → count_to f (a + n) ≡ count_to f a
count_bare f a n h = count_without f a (a + n) (omega arith)
    (λ j l k. let same : a + (j - a) ≡ j = omega arith in ap f (sym same) ∙ h (j - a) (omega arith) (omega arith))

-- at most all of them do
count_most : (f : ℕ → Bool) (a n : ℕ) → count_to f (a + n) ≤ count_to f a + n
count_most f a zero = let x : a + zero ≡ a = omega arith in omega (arith, ap (count_to f) x)
count_most f a (suc n) =
    let x : a + suc n ≡ suc (a + n) = omega arith in
    let ih = count_most f a n in
    ⊎_elim
    (λ e. omega (arith, ap (count_to f) x, ih, count_here f (a + n) e))
    (λ e. omega (arith, ap (count_to f) x, ih, count_on f (a + n) e))
    (cases_Bool (f (suc (a + n))))

-- what a search for the k-th that was seen says
kth_is : (f : ℕ → Bool) (k n : ℕ) (r : Option ℕ) → r ≡ kth_to f k n → KthIs f k n r
kth_is f k n r e = subst (λ (t : Option ℕ). KthIs f k n t) (sym e) (kth_law f k n)

-- the k-th up to n, cut at u
pub cut_kth : (f : ℕ → Bool) (k u n : ℕ) → u ≤ n → cut_at u (kth_to f k n) ≡ kth_to f k u
cut_kth f k u n l = cut (kth_to f k n) (kth_law f k n)
  where
    cut : (r : Option ℕ) → KthIs f k n r → cut_at u r ≡ kth_to f k u
    cut None law = kth_by f k u None (⊎_elim (λ z. inl z) (λ few. inr (omega (arith, few, count_mono f u n l))) law)
    cut (Some q) law =
        cond_both (leb q u) (Some q) None (λ r. r ≡ kth_to f k u)
        (λ e. kth_by f k u (Some q) (law.0, leb-true q u e, law.2, law.3))
        (λ e. kth_by f k u None (inr (omega (arith, law.3, count_less f u q (leb-false q u e) law.2))))

module _ (z : Zombit) where
  abbrev β : ℕ
  β = z.blocks.size

  -- each mixed block is marked
  mixed_marked : (k : ℕ) → k ≤ blocks z → mixed_before (U z) k ≤ count_to (O z) k
  mixed_marked zero h = omega (arith, count_none (λ j. not (U z j)))
  mixed_marked (suc k) h =
      let ih = mixed_marked k (omega arith) in
      ⊎_elim
      (λ y. omega (arith, ih, count_on (λ j. not (U z j)) k (ap not y), count_mono (O z) k (suc k) (omega arith)))
      (λ n. omega (arith, ih, count_here (λ j. not (U z j)) k (ap not n), count_here (O z) k (z.marks k (h, n))))
      (cases_Bool (U z (suc k)))

  -- the members of the first k blocks
  pub blocks_count : (k : ℕ) → k ≤ blocks z → count_to (bays z) (k * β) + bits_before β (U z) k ≡ count_to (O z) k * β + count_to (M z) (bits_before β (U z) k)
  blocks_count zero h =
      let e = zero-mul β in
      let none = ap (λ (n : ℕ). n * β) (count_none (λ j. not (U z j))) ∙ e in
      let marks = ap (λ (n : ℕ). n * β) (count_none (O z)) ∙ e in
      omega (arith, ap (count_to (bays z)) e ∙ count_none (bays z), none, marks, ap (count_to (M z)) none ∙ count_none (M z))
  blocks_count (suc k) h =
      let ih = blocks_count k (omega arith) in
      let up = ap (count_to (bays z)) (suc-mul k β) in
      ⊎_elim
      (λ y.
      let same = count_on (λ j. not (U z j)) k (ap not y) in
      let a = ap (λ (x : ℕ). x * β) same in
      let b = ap (λ (x : ℕ). count_to (M z) (x * β)) same in
      ⊎_elim
      (λ o.
      let p = count_all (bays z) (k * β) β (λ j l g. bay_uniform z k j (l, g) y ∙ o) in
      let m = ap (λ (x : ℕ). x * β) (count_here (O z) k o) ∙ suc-mul (count_to (O z) k) β in
      omega (arith, ih, up, a, b, p, m))
      (λ o.
      let p = count_bare (bays z) (k * β) β (λ j l g. bay_uniform z k j (l, g) y ∙ o) in
      let m = ap (λ (x : ℕ). x * β) (count_on (O z) k o) in
      omega (arith, ih, up, a, b, p, m))
      (cases_Bool (O z (suc k))))
      (λ n.
      let p = count_along (bays z) (M z) (k * β) (bits_before β (U z) k) β (λ j l g. bay_mixed z k j (l, g) n) in
      let a = ap (λ (x : ℕ). x * β) (count_here (λ j. not (U z j)) k (ap not n)) ∙ suc-mul (mixed_before (U z) k) β in
      let b = ap (count_to (M z)) a in
      let m = ap (λ (x : ℕ). x * β) (count_here (O z) k (z.marks k (h, n))) ∙ suc-mul (count_to (O z) k) β in
      omega (arith, ih, up, a, b, p, m))
      (cases_Bool (U z (suc k)))

  -- as they are computed
  pub before_is : (k full bits : ℕ) → k ≤ blocks z → bits ≡ bits_before β (U z) k → full + bits ≡ count_to (O z) k * β → full + count_to (M z) bits ≡ count_to (bays z) (k * β)
  before_is k full bits h e sum = omega (arith, blocks_count k h, e, sum, ap (count_to (M z)) e)

  -- the bits before block k are no more than the places of the marked ones
  pub bits_marked : (k : ℕ) → k ≤ blocks z → bits_before β (U z) k ≤ count_to (O z) k * β
  bits_marked k h = mul-le-mul_right β (mixed_marked k h)

  -- ---- part of block k

  module _ (sort : Sort) (k : ℕ) where
    abbrev f : ℕ → Bool
    f = sorted z sort

    part_all : (at : ℕ) → at ≤ β → KindIs z sort k All → count_to f (k * β + at) ≡ count_to f (k * β) + at
    part_all at h all = count_all f (k * β) at (λ j l g. all j (l, omega arith))

    part_bare : (at : ℕ) → at ≤ β → KindIs z sort k Bare → count_to f (k * β + at) ≡ count_to f (k * β)
    part_bare at h none = count_bare f (k * β) at (λ j l g. none j (l, omega arith))

    -- ---- the n-th place of the sort, in block k

    module _ (n seen : ℕ) (h : k < blocks z) (less : count_to f (k * β) < n) (more : n ≤ count_to f (k * β + β)) (counted : seen ≡ count_to f (k * β)) where
      abbrev left : ℕ
      left = n - seen

      rest : left + count_to f (k * β) ≡ n
      rest = omega (arith, less, counted)

      is_nth : (j : ℕ) → Place β j → f (k * β + j) ≡ true → count_to f (k * β + j) ≡ n → Some (k * β + j) ≡ kth_to f n (places z)
      is_nth j p hit count = kth_by f n (places z) (Some (k * β + j)) (omega (arith, p.0), omega (arith, p.1, block_ends z k h), hit, count)

      pub left_few : left ≤ β
      left_few = omega (arith, more, rest, count_most f (k * β) β)

      nth_all : KindIs z sort k All → Some (k * β + left) ≡ kth_to f n (places z)
      nth_all all = let p : Place β left = (omega arith, left_few) in is_nth left p (all left p) (omega (arith, rest, part_all left left_few all))

      nth_bare : KindIs z sort k Bare → ⊥
      nth_bare none = omega (arith, less, more, part_bare β (omega arith) none)

      -- its bits in M where it is mixed
      abbrev bits : ℕ → Bool
      bits = is_bit z.mixed.now sort

      abbrev a : ℕ
      a = bits_before_block z k

      part_bits : MixedAt z k → (j : ℕ) → j ≤ β → count_to f (k * β + j) + count_to bits a ≡ count_to bits (a + j) + count_to f (k * β)
      part_bits mix j l = count_along f bits (k * β) a j (λ i b c. as_bit z sort k mix i (b, omega arith))

      pub nth_inside : (q : ℕ) → Some q ≡ kth_to bits (count_to bits a + left) (a + β) → BitOf z k q
      nth_inside q e =
          let law = kth_is bits _ _ (Some q) e in
          (⊎_elim (λ l. l) (λ g. absurd (omega (arith, law.3, count_mono bits q a g, rest, less))) (cases_lt a q), law.1)

      nth_mixed : MixedAt z k → (r : Option ℕ) → r ≡ kth_to bits (count_to bits a + left) (a + β) → option_map (λ q. k * β + (q - a)) r ≡ kth_to f n (places z)
      nth_mixed mix None e =
          let law = kth_is bits _ _ None e in
          absurd (⊎_elim (λ none. omega (arith, none, rest, less)) (λ few. omega (arith, few, part_bits mix β (omega arith), rest, more)) law)
      nth_mixed mix (Some q) e =
          let law = kth_is bits _ _ (Some q) e in
          let in' = nth_inside q e in
          let p : Place β (q - a) = (omega (arith, in'.0), omega (arith, in'.1)) in
          let same : a + (q - a) ≡ q = omega (arith, in'.0) in
          let part = part_bits mix (q - a) p.1 in
          let there = ap (count_to bits) same in
          is_nth (q - a) p (as_bit z sort k mix (q - a) p ∙ ap bits same ∙ law.2) (omega (arith, part, there, law.3, rest))

      pub nth_in : (Found : Option ℕ → Type 0) → ((b : Option ℕ) → Found b → b ≡ kth_to bits (count_to bits a + left) (a + β))
          → (r : Option ℕ) → InBlock z sort k left Found r → r ≡ kth_to f n (places z)
      nth_in Found seen r (inl all) = all.1 ∙ nth_all all.0
      nth_in Found seen r (inr (inl none)) = absurd (nth_bare none.0)
      nth_in Found seen r (inr (inr mixed)) = mixed.3 ∙ nth_mixed mixed.0 mixed.1 (seen mixed.1 mixed.2)

  -- ---- the members up to place at of block k

  module _ (k at full bits : ℕ) (h : k < blocks z) (end : at ≤ β) (start : bits ≡ bits_before_block z k) (sum : full + bits ≡ count_to (O z) k * β) where
    seen : full + count_to (M z) bits ≡ count_to (bays z) (k * β)
    seen = before_is k full bits (omega (arith, h)) start sum

    pub members_all : KindIs z Members k All → full + at + count_to (M z) bits ≡ count_to (bays z) (k * β + at)
    members_all all = omega (arith, seen, part_all Members k at end all)

    pub members_bare : KindIs z Members k Bare → full + count_to (M z) bits ≡ count_to (bays z) (k * β + at)
    members_bare none = omega (arith, seen, part_bare Members k at end none)

    pub members_mixed : MixedAt z k → full + count_to (M z) (bits + at) ≡ count_to (bays z) (k * β + at)
    members_mixed mixed =
        let along = count_along (bays z) (M z) (k * β) bits at (λ j l g. bay_mixed z k j (l, omega arith) mixed ∙ ap (λ (n : ℕ). M z (n + j)) (sym start)) in
        omega (arith, seen, along)
