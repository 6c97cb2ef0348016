-- What a list that rises within its bays is by its places, and that the test of it decides.
use Rattle.std.proofs.Common.{◌≡◌, ℕ, zero, suc, ◌-◌, ◌<◌, ◌≤◌, true, List, [], ◌∷◌, length, get_or, Ok, Err, refl, ap, ⊎_elim, arith}
use Rattle.faults.specs.declared.fault.Flaw.TheVariants.{Content}
use Rattle.std.proofs.lemmas.Bool.{and_parts, and_from, leb-true, le-leb, cases_Bool, cond-true, cond-false}
use Rattle.sets.specs.Lists.{Each, Rising}
use Rattle.list.specs.Lawful.{RisesWithin, Steps, EndsWithin, rises, list_check}
use Rattle.list.specs.Places.{Inside, Climbs}

module _ (u : ℕ) where
  pub lawful_if : (p : ℕ) (ns : List ℕ) → rises u p ns ≡ true → Rising p ns × Each (λ x. x ≤ u) ns
  unfolding rises
  lawful_if p [] e = (tt, tt)
  lawful_if p (n ∷ ns) e =
      let first = and_parts _ _ e in
      let rest = and_parts _ _ first.1 in
      let more = lawful_if (suc n) ns rest.1 in
      ((leb-true p n first.0, more.0), (leb-true n u rest.0, more.1))

  pub rises_if : (p : ℕ) (ns : List ℕ) → Rising p ns → Each (λ x. x ≤ u) ns → rises u p ns ≡ true
  unfolding rises
  rises_if p [] r h = refl
  rises_if p (n ∷ ns) r h = and_from _ _ (le-leb p n r.0) (and_from _ _ (le-leb n u h.0) (rises_if (suc n) ns r.1 h.1))

-- no number is below the least that the first may be
above : (p : ℕ) (ns : List ℕ) → Rising p ns → (j : ℕ) → j < length ns → p ≤ get_or ns j 0
above p [] r j l = absurd (omega arith)
above p (n ∷ ns) r zero l = r.0
above p (n ∷ ns) r (suc j) l = omega (arith, r.0, above (suc n) ns r.1 j (omega arith))

pub climbs : (p : ℕ) (ns : List ℕ) → Rising p ns → Climbs ns
climbs p [] r i j l = absurd (omega (arith, l.1))
climbs p (n ∷ ns) r i zero l = absurd (omega (arith, l.0))
climbs p (n ∷ ns) r zero (suc j) l = above (suc n) ns r.1 j (omega (arith, l.1))
climbs p (n ∷ ns) r (suc i) (suc j) l = climbs (suc n) ns r.1 i j (omega (arith, l.0), omega (arith, l.1))

each_at : (u : ℕ) (ns : List ℕ) → Each (λ x. x ≤ u) ns → (j : ℕ) → j < length ns → get_or ns j 0 ≤ u
each_at u [] h j l = absurd (omega arith)
each_at u (n ∷ ns) h zero l = h.0
each_at u (n ∷ ns) h (suc j) l = each_at u ns h.1 j (omega arith)

pub inside : (u : ℕ) (ns : List ℕ) → RisesWithin u ns → Inside u ns
inside u ns h j l = (above 1 ns h.0 j l, each_at u ns h.1 j l)

-- ---- from the ends and the steps

rising_from : (p : ℕ) (ns : List ℕ) → (0 < length ns → p ≤ get_or ns 0 0) → Steps ns → Rising p ns
rising_from p [] first up = tt
rising_from p (n ∷ ns) first up = (first (omega arith), rising_from (suc n) ns (λ l. up 0 (omega arith)) (λ j l. up (suc j) (omega arith)))

each_under : (u : ℕ) (ns : List ℕ) → (0 < length ns → get_or ns (length ns - 1) 0 ≤ u) → Steps ns → Each (λ x. x ≤ u) ns
each_under u [] last up = tt
each_under u (n ∷ []) last up = (last (omega arith), tt)
each_under u (n ∷ m ∷ ns) last up =
    let same : length (n ∷ m ∷ ns) - 1 ≡ suc (length (m ∷ ns) - 1) = omega arith in
    let rest = each_under u (m ∷ ns) (λ l. omega (arith, last (omega arith), ap (λ (k : ℕ). get_or (n ∷ m ∷ ns) k 0) same)) (λ j l. up (suc j) (omega arith)) in
    (omega (arith, up 0 (omega arith), rest.0), rest)

module _ (u : ℕ) (ns : List ℕ) where
  pub within : EndsWithin u ns → Steps ns → RisesWithin u ns
  within ends up = (rising_from 1 ns (λ some. (ends some).0) up, each_under u ns (λ some. (ends some).1) up)

  pub steps_of : RisesWithin u ns → Steps ns
  steps_of h j l = climbs 1 ns h.0 j (suc j) (omega arith, l)

  pub ends_of : RisesWithin u ns → EndsWithin u ns
  ends_of h some = ((inside u ns h 0 some).0, (inside u ns h (length ns - 1) (omega arith)).1)

  -- the check finds them lawful, or not
  pub taken_if : RisesWithin u ns → list_check u ns ≡ Ok tt
  taken_if h = cond-true _ _ _ (rises_if u 1 ns h.0 h.1)

  pub refused_if : (RisesWithin u ns → ⊥) → list_check u ns ≡ Err Content
  refused_if bad = ⊎_elim (λ yes. absurd (bad (lawful_if u 1 ns yes))) (λ no. cond-false _ _ _ no) (cases_Bool (rises u 1 ns))
