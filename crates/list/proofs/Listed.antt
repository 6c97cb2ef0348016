-- The numbers of a set are exactly its members, rising; they are opened, and stand for it.
use Rattle.std.proofs.Common.{◌≡◌, ℕ, zero, suc, ◌+◌, ◌<◌, ◌≤◌, Bool, true, List, [], ◌∷◌, ◌++◌, length, sym, refl, ap, ◌∙◌, subst, inl, inr, ⊎_elim, arith, length-append}
use Rattle.std.proofs.lemmas.Bool.{cases_Bool, cases_lt, both_ways}
use Rattle.sets.specs.declared.Sort.TheVariants.{Members}
use Rattle.sets.specs.Lists.{Among, Each, Rising}
use Rattle.sets.specs.Packing.{pack, member_after}
use Rattle.sets.specs.Search.{count_to}
use Rattle.sets.specs.Sets.{is_member, Sized}
use Rattle.sets.proofs.Bays.{is_bay, is_beyond}
use Rattle.sets.proofs.Tests.{count_none, count_here, count_on}
use Rattle.bits.specs.Bits.{bit_at}
use Rattle.bits.proofs.Packing.{packs}
use Rattle.list.specs.Filling.{numbers_of}
use Rattle.list.specs.Refilling.{PartsTell}
use Rattle.list.specs.Lawful.{RisesWithin}
use Rattle.list.proofs.Walked.{passing, passing_here, passing_on}

rising_less : (p q : ℕ) (xs : List ℕ) → p ≤ q → Rising q xs → Rising p xs
rising_less p q [] l r = tt
rising_less p q (x ∷ xs) l r = (omega (arith, r.0), r.1)

each_among : (P : ℕ → Type 0) (xs : List ℕ) → ((j : ℕ) → Among xs j → P j) → Each P xs
each_among P [] h = tt
each_among P (x ∷ xs) h = (h x (inl refl), each_among P xs (λ j m. h j (inr m)))

module _ (f : ℕ → Bool) where
  passing_rises : (p n : ℕ) → Rising p (passing f p n)
  passing_rises p zero = tt
  passing_rises p (suc n) =
      let more = passing_rises (suc p) n in
      ⊎_elim
      (λ e. subst (Rising p) (sym (passing_here f p n e)) (omega arith, more))
      (λ e. subst (Rising p) (sym (passing_on f p n e)) (rising_less p (suc p) (passing f (suc p) n) (omega arith) more))
      (cases_Bool (f p))

  -- j is one of the n numbers from p on, and passes
  abbrev Passes : ℕ → ℕ → ℕ → Type 0
  Passes p n j = (p ≤ j) × (j < p + n) × (f j ≡ true)

  wider : (p n j : ℕ) → Passes (suc p) n j → Passes p (suc n) j
  wider p n j h = (omega (arith, h.0), omega (arith, h.1), h.2)

  passing_only : (p n j : ℕ) → Among (passing f p n) j → Passes p n j
  passing_only p zero j m = absurd m
  passing_only p (suc n) j m =
      ⊎_elim
      (λ e. ⊎_elim
      (λ same. (omega arith, omega arith, ap f same ∙ e))
      (λ more. wider p n j (passing_only (suc p) n j more))
      (subst (λ xs. Among xs j) (passing_here f p n e) m))
      (λ e. wider p n j (passing_only (suc p) n j (subst (λ xs. Among xs j) (passing_on f p n e) m)))
      (cases_Bool (f p))

  passing_all : (p n j : ℕ) → p ≤ j → j < p + n → f j ≡ true → Among (passing f p n) j
  passing_all p zero j l h e = absurd (omega arith)
  passing_all p (suc n) j l h e =
      ⊎_elim
      (λ here. subst (λ xs. Among xs j) (sym (passing_here f p n here))
      (⊎_elim (λ more. inr (passing_all (suc p) n j more (omega arith) e)) (λ less. inl (omega arith)) (cases_lt p j)))
      (λ not'. subst (λ xs. Among xs j) (sym (passing_on f p n not'))
      (⊎_elim
      (λ more. passing_all (suc p) n j more (omega arith) e)
      (λ less. let same : j ≡ p = omega arith in absurd (both_ways _ not' (ap f (sym same) ∙ e)))
      (cases_lt p j)))
      (cases_Bool (f p))

pub lists_members : PartsTell
unfolding numbers_of
lists_members s = record {
  rising = rising_less 0 1 (numbers_of s) (omega arith) (passing_rises (is_member s) 1 (length s));
  all = λ j e. let bay = is_bay s Members j e in passing_all (is_member s) 1 (length s) j bay.0 (omega (arith, bay.1)) e;
  only = λ j m. (passing_only (is_member s) 1 (length s) j m).2;
}

pub numbers_rise : (s : List Bool) → RisesWithin (length s) (numbers_of s)
unfolding numbers_of
numbers_rise s = (
  passing_rises (is_member s) 1 (length s),
  each_among (λ x. x ≤ length s) (numbers_of s) (λ j m. omega (arith, (passing_only (is_member s) 1 (length s) j m).1)),
)

-- ---- how many there are

module _ (f : ℕ → Bool) where
  pub passing_join : (p n m : ℕ) → passing f p (n + m) ≡ passing f p n ++ passing f (p + n) m
  passing_join p zero m =
      let none : zero + m ≡ m = omega arith in
      let same : p ≡ p + zero = omega arith in
      (λ i. passing f (same i) (none i))
  passing_join p (suc n) m =
      let more : suc n + m ≡ suc (n + m) = omega arith in
      let same : suc p + n ≡ p + suc n = omega arith in
      let rest : passing f (suc p) (n + m) ≡ passing f (suc p) n ++ passing f (p + suc n) m =
      passing_join (suc p) n m ∙ ap (λ (q : ℕ). passing f (suc p) n ++ passing f q m) same in
      ap (λ (k : ℕ). passing f p k) more
      ∙ ⊎_elim
      (λ e. passing_here f p (n + m) e ∙ ap (λ xs. p ∷ xs) rest ∙ ap (λ xs. xs ++ passing f (p + suc n) m) (sym (passing_here f p n e)))
      (λ e. passing_on f p (n + m) e ∙ rest ∙ ap (λ xs. xs ++ passing f (p + suc n) m) (sym (passing_on f p n e)))
      (cases_Bool (f p))

  pub passing_count : (n : ℕ) → length (passing f 1 n) ≡ count_to f n
  passing_count zero = sym (count_none f)
  passing_count (suc n) =
      let more : suc n ≡ n + 1 = omega arith in
      let at : 1 + n ≡ suc n = omega arith in
      let split = ap length (ap (passing f 1) more ∙ passing_join 1 n 1) ∙ length-append (passing f 1 n) (passing f (1 + n) 1) in
      let last = ap (λ (q : ℕ). length (passing f q 1)) at in
      ⊎_elim
      (λ e. omega (arith, split, last, ap length (passing_here f (suc n) 0 e), passing_count n, count_here f n e))
      (λ e. omega (arith, split, last, ap length (passing_on f (suc n) 0 e), passing_count n, count_on f n e))
      (cases_Bool (f (suc n)))

pub numbers_count : (s : List Bool) → count_to (is_member s) (length s) ≡ length (numbers_of s)
unfolding numbers_of
numbers_count s = sym (passing_count (is_member s) (length s))

-- the bits of all bays that a set can have
pub row_tells : (s : List Bool) (n : ℕ) (row : List ℕ) → Sized s → 65535 ≤ n → row ≡ pack n (member_after s 0) → (i : ℕ) → 1 ≤ i → bit_at row i ≡ is_member s i
row_tells s n row sized room e i one =
    let law = packs n (member_after s 0) in
    let same : 0 + i ≡ i = omega arith in
    ap (λ bytes. bit_at bytes i) e
    ∙ ⊎_elim
    (λ past. law.1 i past ∙ sym (is_beyond s Members i (omega (arith, sized.1))))
    (λ within. law.3 i one within ∙ ap (is_member s) same)
    (cases_lt n i)
