-- One step of the walk, and that each stretch takes a bay or more.
use Rattle.std.proofs.Common.{◌≡◌, ℕ, zero, suc, ◌+◌, ◌-◌, ◌<◌, ◌≤◌, Bool, true, false, leb, List, Some, None, Option, sym, refl, ap, ◌∙◌, ⊎_elim, arith}
use Rattle.std.proofs.lemmas.Bool.{cond-true, cond-false, and_parts, and_cases, cases_Bool, cases_lt, cases_eq, both_ways, le-leb, lt-leb}
use Rattle.sets.specs.Sets.{is, is_member, next_of}
use Rattle.sets.specs.Laws.{NextIs}
use Rattle.sets.specs.declared.Sort.TheVariants.{Members}
use Rattle.sets.proofs.Lawful.{next_smallest}
use Rattle.sets.proofs.Only.{next_here}
use Rattle.round.specs.declared.walk.Walked.{Walked}
use Rattle.round.specs.Machine.{end, stop, common, larger, walk, next_from}

stop_from : (s : List Bool) (p w : ℕ) (r : Option ℕ) → NextIs s Members p r → p ≤ w → p ≤ stop w r
stop_from s p w None law l = omega arith
stop_from s p w (Some q) law l = omega (arith, law.0)

stop_past : (s : List Bool) (p w : ℕ) (r : Option ℕ) → NextIs s Members p r → p ≤ w → is s Members p ≡ false → p < stop w r
stop_past s p w None law l e = omega arith
stop_past s p w (Some q) law l e =
    ⊎_elim (λ same. absurd (both_ways _ e (ap (is s Members) same ∙ law.1))) (λ differ. omega (arith, law.0)) (cases_eq p q)

pub stop_end : (w : ℕ) (r : Option ℕ) → stop w r ≤ suc w
stop_end w None = omega arith
stop_end w (Some q) = omega arith

-- a walk with a stretch more
abbrev pub longer : Walked → Walked
longer w = record { taken = record { bay = w.taken.bay; stretches = w.taken.stretches + 1 }; place = w.place }

module _ (f c : List Bool) where
  pub larger_past : (p : ℕ) → p ≤ end f c → common f c p ≡ false → p < larger f c p
  unfolding common larger
  larger_past p l e =
      let w = end f c in
      let ff = stop_from f p w (next_of f Members p) (next_smallest f Members p) l in
      let cc' = stop_from c p w (next_of c Members p) (next_smallest c Members p) l in
      ⊎_elim
      (λ out. omega (arith, stop_past f p w (next_of f Members p) (next_smallest f Members p) l out))
      (λ out. omega (arith, stop_past c p w (next_of c Members p) (next_smallest c Members p) l out))
      (and_cases (is_member f p) (is_member c p) e)

  pub larger_end : (p : ℕ) → larger f c p ≤ suc (end f c)
  unfolding larger
  larger_end p = omega (arith, stop_end (end f c) (next_of f Members p), stop_end (end f c) (next_of c Members p))

  pub larger_here : (p : ℕ) → p ≤ end f c → common f c p ≡ true → larger f c p ≡ p
  unfolding common larger
  larger_here p l e =
      let both = and_parts (is_member f p) (is_member c p) e in
      let ef = ap (stop (end f c)) (next_here f Members p both.0) in
      let ec = ap (stop (end f c)) (next_here c Members p both.1) in
      omega arith

  common_if : (p : ℕ) → p ≤ end f c → larger f c p ≡ p → common f c p ≡ true
  common_if p l e = ⊎_elim (λ h. h) (λ h. absurd (let past = larger_past p l h in omega arith)) (cases_Bool (common f c p))

  common_not : (p : ℕ) → p ≤ end f c → (larger f c p ≡ p → ⊥) → common f c p ≡ false
  common_not p l e = ⊎_elim (λ h. absurd (e (larger_here p l h))) (λ h. h) (cases_Bool (common f c p))

  -- the walk from p on, n stretches having been taken
  unfoldable pub rest : ℕ → ℕ → Walked
  rest p n = walk f c (suc (end f c) - p) p n

  pub walk_end : (m p n : ℕ) → end f c < p → walk f c m p n ≡ record { taken = record { bay = None; stretches = n }; place = p }
  unfolding walk
  walk_end zero p n h = refl
  walk_end (suc m) p n h = cond-false (leb p (end f c)) _ _ (lt-leb p (end f c) h)

  pub walk_here : (m p n : ℕ) → 0 < m → p ≤ end f c → common f c p ≡ true → walk f c m p n ≡ record { taken = record { bay = Some p; stretches = n + 1 }; place = p + 1 }
  unfolding walk
  walk_here zero p n z h e = absurd (omega arith)
  walk_here (suc m) p n z h e = cond-true (leb p (end f c)) _ _ (le-leb p (end f c) h) ∙ cond-true (common f c p) _ _ e

  pub walk_on : (m p n : ℕ) → p ≤ end f c → common f c p ≡ false → walk f c (suc m) p n ≡ walk f c m (larger f c p) (n + 1)
  unfolding walk
  walk_on m p n h e = cond-true (leb p (end f c)) _ _ (le-leb p (end f c) h) ∙ cond-false (common f c p) _ _ e

  -- more stretches than there are bays left add nothing
  walk_enough : (m d p n : ℕ) → suc (end f c) ≤ m + p → walk f c (m + d) p n ≡ walk f c m p n
  walk_enough zero d p n h = walk_end (zero + d) p n (omega arith) ∙ sym (walk_end zero p n (omega arith))
  walk_enough (suc m) d p n h =
      ⊎_elim
      (λ beyond. walk_end (suc m + d) p n beyond ∙ sym (walk_end (suc m) p n beyond))
      (λ within. ⊎_elim
      (λ e. walk_here (suc m + d) p n (omega arith) within e ∙ sym (walk_here (suc m) p n (omega arith) within e))
      (λ e.
      let past = larger_past p within e in
      let sum : suc m + d ≡ suc (m + d) = omega arith in
      ap (λ x. walk f c x p n) sum ∙ walk_on (m + d) p n within e ∙ walk_enough m d (larger f c p) (n + 1) (omega arith) ∙ sym (walk_on m p n within e))
      (cases_Bool (common f c p)))
      (cases_lt (end f c) p)

  pub rest_end : (p n : ℕ) → end f c < p → rest p n ≡ record { taken = record { bay = None; stretches = n }; place = p }
  unfolding rest
  rest_end p n h = walk_end (suc (end f c) - p) p n h

  pub rest_here : (p n : ℕ) → p ≤ end f c → common f c p ≡ true → rest p n ≡ record { taken = record { bay = Some p; stretches = n + 1 }; place = p + 1 }
  unfolding rest
  rest_here p n h e = walk_here (suc (end f c) - p) p n (omega arith) h e

  pub rest_on : (p n : ℕ) → p ≤ end f c → common f c p ≡ false → rest p n ≡ rest (larger f c p) (n + 1)
  unfolding rest
  rest_on p n h e =
      let past = larger_past p h e in
      let top = larger_end p in
      let m = suc (end f c) - larger f c p in
      let d = larger f c p - suc p in
      let sum : suc (end f c) - p ≡ suc (m + d) = omega arith in
      ap (λ x. walk f c x p n) sum ∙ walk_on (m + d) p n h e ∙ walk_enough m d (larger f c p) (n + 1) (omega arith)

  walk_more : (m p n : ℕ) → walk f c m p (n + 1) ≡ longer (walk f c m p n)
  unfolding walk
  walk_more zero p n = refl
  walk_more (suc m) p n =
      ⊎_elim
      (λ beyond. walk_end (suc m) p (n + 1) beyond ∙ ap longer (sym (walk_end (suc m) p n beyond)))
      (λ within. ⊎_elim
      (λ e. walk_here (suc m) p (n + 1) (omega arith) within e ∙ ap longer (sym (walk_here (suc m) p n (omega arith) within e)))
      (λ e. walk_on m p (n + 1) within e ∙ walk_more m (larger f c p) (n + 1) ∙ ap longer (sym (walk_on m p n within e)))
      (cases_Bool (common f c p)))
      (cases_lt (end f c) p)

  pub rest_more : (p n : ℕ) → rest p (n + 1) ≡ longer (rest p n)
  unfolding rest
  rest_more p n = walk_more (suc (end f c) - p) p n

  -- a stretch from p that reached m ended at a common bay,
  pub step_here : (p m n : ℕ) → p ≤ end f c → m ≡ larger f c p → m ≡ p → ◌≡◌ {A = Walked} (record { taken = record { bay = Some p; stretches = n + 1 }; place = p + 1 }) (rest p n)
  step_here p m n l e same = sym (rest_here p n l (common_if p l (sym e ∙ same)))

  -- or the walk goes on from m
  pub step_on : (p m n : ℕ) → p ≤ end f c → m ≡ larger f c p → (m ≡ p → ⊥) → (p < m) × (m ≤ suc (end f c)) × (rest m (n + 1) ≡ rest p n)
  step_on p m n l e differ =
      let apart = common_not p l (λ same. differ (e ∙ same)) in
      let past = larger_past p l apart in
      (omega (arith, e), omega (arith, e, larger_end p), ap (λ k. rest k (n + 1)) e ∙ sym (rest_on p n l apart))

  pub rest_start : (p : ℕ) → rest p 0 ≡ next_from f c p
  unfolding rest next_from
  rest_start p = refl
