-- The check of the rows, by its definition, refuses exactly what is unlawful.
use Rattle.std.proofs.Common.{◌≡◌, ℕ, ◌≤◌, Bool, true, not, ◌||◌, eqb, Some, None, Ok, Err, Option, sym, refl, ap, ⊎_elim, arith}
use Rattle.faults.specs.Checks.{Check, CheckIs, none_found}
use Rattle.faults.specs.Numbers.{flaw_number}
use Rattle.faults.specs.declared.fault.Flaw.{Flaw}
use Rattle.faults.specs.declared.fault.Flaw.TheVariants.{Unlawful}
use Rattle.std.proofs.lemmas.Bool.{cond_both, cases_lt, both_ways, and_parts, and_from, or_cases, or_left, or_right, eqb-true, eq-eqb, ltb-true, leb-true, lt-ltb, le-leb, not-true, not-false}
use Rattle.sets.specs.Search.{count_to}
use Rattle.sets.proofs.Tests.{FirstIs, first_law}
use Rattle.pioneer.specs.Opening.{run_fits, runs_check}
use Rattle.pioneer.specs.Runs.{runs, Lawful}
use Rattle.pioneer.proofs.Passing.{Fits, all_fit, each_fits}

module _ (u n : ℕ) (P L : ℕ → Bool) where
  fits_true : (r : ℕ) → run_fits u n P L r ≡ true → Fits u n P L r
  fits_true r e = let parts = and_parts _ _ e in (ltb-true _ _ parts.0, leb-true _ _ parts.1)

  true_fits : (r : ℕ) → Fits u n P L r → run_fits u n P L r ≡ true
  true_fits r fit = and_from _ _ (lt-ltb _ _ fit.0) (le-leb _ _ fit.1)

  -- a check that refuses exactly what is unlawful
  abbrev Told : Check → Type 0
  Told (Ok _) = Lawful u n P L
  Told (Err e) = (e ≡ Unlawful) × (Lawful u n P L → ⊥)

  found : (o : Option ℕ) → runs u n P L ≡ count_to L n → (1 ≤ n → L n ≡ true) → FirstIs (λ r. not (run_fits u n P L r)) 1 (runs u n P L) o → Told (none_found Unlawful o)
  found None equal ended law = all_fit u n P L equal ended (λ r is. fits_true r (not-false _ (law r is.0 (omega (arith, is.1)))))
  found (Some r) equal ended law = (refl, λ lawful. both_ways _ (not-true _ law.2) (true_fits r (each_fits u n P L lawful r (law.0, omega (arith, law.1)))))

  runs_told : Told (runs_check u n P L)
  runs_told = cond_both _ _ _ Told
      (λ e.
      let parts = and_parts (eqb (runs u n P L) (count_to L n)) (eqb n 0 || L n) e in
      found _ (eqb-true _ _ parts.0) (λ some. ⊎_elim (λ z. absurd (omega (arith, eqb-true n 0 z))) (λ one. one) (or_cases (eqb n 0) (L n) parts.1)) (first_law _ 1 _))
      (λ e. (
        refl,
        λ lawful.
            both_ways _ e (and_from _ _ (eq-eqb _ _ lawful.0)
            (⊎_elim (λ less. or_left _ _ (eq-eqb n 0 (omega arith))) (λ some. or_right _ _ (lawful.1 some)) (cases_lt n 1))),
      ))

  numbered : (o : Check) → Told o → CheckIs 6 (Lawful u n P L) o
  numbered (Ok _) told = told
  numbered (Err e) told = (ap flaw_number told.0, told.1)

  pub runs_law : CheckIs 6 (Lawful u n P L) (runs_check u n P L)
  runs_law = numbered _ runs_told

  -- whoever finds that the rows are lawful, or are not, answers as the check does
  accepts : (o : Check) → Told o → Lawful u n P L → Ok tt ≡ o
  accepts (Ok _) told lawful = refl
  accepts (Err e) told lawful = absurd (told.1 lawful)

  refuses : (o : Check) → Told o → (Lawful u n P L → ⊥) → Err Unlawful ≡ o
  refuses (Ok _) told wrong = absurd (wrong told)
  refuses (Err e) told wrong = ap (λ (f : Flaw). Err f) (sym told.0)

  pub is_lawful : Lawful u n P L → Ok tt ≡ runs_check u n P L
  is_lawful = accepts _ runs_told

  pub is_unlawful : (Lawful u n P L → ⊥) → Err Unlawful ≡ runs_check u n P L
  is_unlawful = refuses _ runs_told
