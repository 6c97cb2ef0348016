-- Rows whose bits are those of a set are lawful, and stand for it.
use Rattle.std.proofs.Common.{◌≡◌, ℕ, zero, suc, ◌+◌, ◌-◌, ◌<◌, ◌≤◌, Bool, true, false, cond, not, ◌&&◌, sym, refl, ap, ◌∙◌, ⊎_elim, arith}
use Rattle.std.proofs.lemmas.Bool.{cases_Bool, cases_lt, both_ways, and_left, and_right, and_from, and_parts, not-true}
use Rattle.sets.specs.Search.{count_to}
use Rattle.sets.proofs.Tests.{count_none, count_here, count_on, count_at, count_mono}
use Rattle.pioneer.specs.Runs.{place_of, runs, start_of, sum_of, behind_of, in_run, IsRun, Lawful}
use Rattle.pioneer.proofs.Passing.{all_fit}
use Rattle.pioneer.proofs.Places.{place_law, place_by, place_none, place_high}
use Rattle.pioneer.proofs.Ranks.{inside, outside}

abbrev one : Bool → ℕ
one b = cond b 1 0

-- of two neighbours, the one is a member with the other or without it
with_or_without : (a b : Bool) → one (a && not b) + one (a && b) ≡ one a
with_or_without true true = refl
with_or_without true false = refl
with_or_without false b = refl

without_or_with : (a b : Bool) → one (a && not b) + one (b && a) ≡ one a
without_or_with true true = refl
without_or_with true false = refl
without_or_with false true = refl
without_or_with false false = refl

one_more_place : (f : ℕ → Bool) (i : ℕ) → count_to f (suc i) ≡ one (f (suc i)) + count_to f i
unfolding count_to
one_more_place f i = refl

-- the rows P and L have the bits of the members f of the bays 1 to u
pub record Codes (u : ℕ) (f P L : ℕ → Bool) : Type 0 where
  pub low : f 0 ≡ false
  pub high : f (suc u) ≡ false
  pub starts : (i : ℕ) → i < u → P (suc i) ≡ (f (suc i) && not (f i))
  pub sums : (i : ℕ) → i ≤ u → f i ≡ true → L (count_to f i) ≡ not (f (suc i))

module _ (u : ℕ) (f P L : ℕ → Bool) (codes : Codes u f P L) where
  abbrev all : ℕ
  all = count_to f u

  -- the sums up to the members up to bay i
  abbrev sums_by : ℕ → ℕ
  sums_by i = count_to L (count_to f i)

  one_more_sum : (i : ℕ) → i < u → sums_by (suc i) ≡ one (f (suc i) && not (f (suc (suc i)))) + sums_by i
  one_more_sum i h = ⊎_elim
      (λ e.
      let here : count_to f (suc i) ≡ suc (count_to f i) = count_here f i e in
      let bit : L (suc (count_to f i)) ≡ (f (suc i) && not (f (suc (suc i)))) = ap L (sym here) ∙ codes.sums (suc i) h e ∙ ap (λ b. b && not (f (suc (suc i)))) (sym e) in
      ap (count_to L) here ∙ one_more_place L (count_to f i) ∙ ap (λ b. one b + sums_by i) bit)
      (λ e. omega (arith, ap (count_to L) (count_on f i e), ap one (and_left (f (suc i)) (not (f (suc (suc i)))) e)))
      (cases_Bool (f (suc i)))

  -- of the runs that have begun by bay i one has no sum yet, if it goes on
  balance : (i : ℕ) → i ≤ u → count_to P i ≡ one (f (suc i) && f i) + sums_by i
  balance zero h =
      let out = ap one (and_right (f 1) (f 0) codes.low) in
      let none = ap (count_to L) (count_none f) in
      omega (arith, out, none, count_none P, count_none L)
  balance (suc i) h =
      let begun = one_more_place P i ∙ ap (λ b. one b + count_to P i) (codes.starts i h) in
      omega (arith, begun, balance i (omega arith), one_more_sum i h, with_or_without (f (suc i)) (f i), without_or_with (f (suc i)) (f (suc (suc i))))

  settled : (i : ℕ) → i ≤ u → f (suc i) ≡ false → count_to P i ≡ sums_by i
  settled i h e = omega (arith, balance i h, ap one (and_left (f (suc i)) (f i) e))

  -- a bay that is no member, or comes before one, begins no run
  outer : (i : ℕ) → i < u → f (suc i) ≡ false → P (suc i) ≡ false
  outer i h e = codes.starts i h ∙ and_left _ _ e

  later : (i : ℕ) → i < u → f i ≡ true → P (suc i) ≡ false
  later i h e = codes.starts i h ∙ and_right _ _ (ap not e)

  -- the sum of the runs so far is the number of the members so far, where the next bay is none, or bay i is none
  summed : (i : ℕ) → i ≤ u → f (suc i) ≡ false → place_of L all (count_to P i) ≡ count_to f i
  summed zero h e = ap (place_of L all) (count_none P) ∙ place_none L all ∙ sym (count_none f)
  summed (suc i) h e = ⊎_elim
      (λ m.
      let at = count_here f i m in
      sym (place_by L all _ _ (omega arith, count_mono f (suc i) u h, codes.sums (suc i) h m ∙ ap not e, sym (settled (suc i) h e))))
      (λ m. ap (place_of L all) (count_on P i (outer i h m)) ∙ summed i (omega arith) m ∙ sym (count_on f i m))
      (cases_Bool (f (suc i)))

  summed_out : (i : ℕ) → i ≤ u → f i ≡ false → place_of L all (count_to P i) ≡ count_to f i
  summed_out zero h e = ap (place_of L all) (count_none P) ∙ place_none L all ∙ sym (count_none f)
  summed_out (suc i) h e = ap (place_of L all) (count_on P i (outer i h e)) ∙ summed i (omega arith) e ∙ sym (count_on f i e)

  -- a member: its run has begun, and its number counts on from there
  record Lies (i : ℕ) : Type 0 where
    some : 1 ≤ count_to P i
    begun : start_of u all P L (count_to P i) ≤ i
    number : count_to f i + start_of u all P L (count_to P i) ≡ sum_of u all P L (count_to P i - 1) + suc i

  lies : (i : ℕ) → i ≤ u → f i ≡ true → Lies i
  lies zero h m = absurd (both_ways _ codes.low m)
  lies (suc i) h m = ⊎_elim
      (λ e.
      let same : count_to P (suc i) ≡ count_to P i = count_on P i (later i h e) in
      let on = lies i (omega arith) e in
      let start = ap (place_of P u) same in
      let sum = ap (λ (r : ℕ). place_of L all (r - 1)) same in
      record { some = omega (arith, on.some); begun = omega (arith, on.begun); number = omega (arith, on.number, count_here f i m) })
      (λ e.
      let begins : P (suc i) ≡ true = codes.starts i h ∙ and_from _ _ m (ap not e) in
      let next : count_to P (suc i) ≡ suc (count_to P i) = count_here P i begins in
      let start : suc i ≡ start_of u all P L (count_to P (suc i)) = place_by P u _ (suc i) (omega arith, h, begins, refl) in
      let before : count_to P (suc i) - 1 ≡ count_to P i = omega arith in
      let sum = ap (place_of L all) before in
      record { some = omega arith; begun = omega arith; number = omega (arith, count_here f i m, summed_out i (omega arith) e) })
      (cases_Bool (f i))

  -- a run ends where the next bay is no member
  run_end : (i : ℕ) → i ≤ u → f i ≡ true → f (suc i) ≡ false → behind_of u all P L (count_to P i) ≡ suc i
  run_end i h m e = let at = lies i h m in omega (arith, at.begun, at.number, summed i h e)

  run_past : (i : ℕ) → i ≤ u → f i ≡ false → behind_of u all P L (count_to P i) ≤ i
  run_past zero h e = let z = ap (behind_of u all P L) (count_none P) in omega (arith, z, place_none P u, place_none L all)
  run_past (suc i) h e =
      let same = ap (behind_of u all P L) (count_on P i (outer i h e)) in
      ⊎_elim (λ m. omega (arith, same, run_end i (omega arith) m e)) (λ m. omega (arith, same, run_past i (omega arith) m)) (cases_Bool (f i))

  equal : runs u all P L ≡ count_to L all
  equal = settled u (omega arith) codes.high

  ended : 1 ≤ all → L all ≡ true
  ended some =
      let last = summed u (omega arith) codes.high in
      ⊎_elim
      (λ z. let none : runs u all P L ≡ 0 = omega arith in absurd (omega (arith, last, ap (place_of L all) none, place_none L all)))
      (λ r. ap L (sym last) ∙ (place_law L all (runs u all P L) r (omega (arith, equal))).2)
      (cases_lt (runs u all P L) 1)

  -- before the first bay of a run comes a bay that is no member
  apart : (r : ℕ) → IsRun u all P L r → behind_of u all P L (r - 1) < start_of u all P L r
  apart r is =
      let at = place_law P u r is.0 is.1 in
      let a = start_of u all P L r in
      let same : suc (a - 1) ≡ a = omega (arith, at.0) in
      let bit : (f (suc (a - 1)) && not (f (a - 1))) ≡ true = sym (codes.starts (a - 1) (omega (arith, at.0, at.1))) ∙ ap P same ∙ at.2 in
      let before : count_to P (a - 1) ≡ r - 1 = omega (arith, count_at P a at.0 at.2, at.3) in
      let out : behind_of u all P L (count_to P (a - 1)) ≤ a - 1 = run_past (a - 1) (omega (arith, at.1)) (not-true (f (a - 1)) (and_parts (f (suc (a - 1))) (not (f (a - 1))) bit).1) in
      omega (arith, out, at.0, ap (behind_of u all P L) before)

  within : (r : ℕ) → IsRun u all P L r → behind_of u all P L r ≤ u + 1
  within r is = ⊎_elim
      (λ less.
      let next : suc r - 1 ≡ r = omega arith in
      let on = apart (suc r) (omega arith, omega arith) in
      omega (arith, on, ap (behind_of u all P L) next, (place_law P u (suc r) (omega arith) (omega arith)).1))
      (λ last.
      let same : runs u all P L ≡ r = omega (arith, is.1) in
      let e = ap (behind_of u all P L) same in
      ⊎_elim (λ m. omega (arith, e, run_end u (omega arith) m codes.high)) (λ m. omega (arith, e, run_past u (omega arith) m)) (cases_Bool (f u)))
      (cases_lt r (runs u all P L))

  pub codes_lawful : Lawful u all P L
  codes_lawful = all_fit u all P L equal ended (λ r is. (apart r is, within r is))

  -- a member lies in the run that has begun by its bay
  pub codes_inside : (i : ℕ) → i ≤ u → in_run u all P L i ≡ f i
  codes_inside i h = ⊎_elim
      (λ m.
      let at = lies i h m in
      let most : count_to P i ≤ count_to L all = omega (arith, equal, count_mono P i u h) in
      let sum : count_to f i ≤ sum_of u all P L (count_to P i) = ⊎_elim
      (λ e.
      let due : sums_by i < count_to P i = omega (arith, balance i h, ap one (and_from (f (suc i)) (f i) e m)) in
      omega (arith, place_high L all (count_to f i) (count_to P i) most due))
      (λ e. omega (arith, summed i h e))
      (cases_Bool (f (suc i))) in
      inside u all P L i _ refl at.some (omega (arith, sum, at.begun, at.number)) ∙ sym m)
      (λ m. outside u all P L i _ refl (run_past i h m) ∙ sym m)
      (cases_Bool (f i))
