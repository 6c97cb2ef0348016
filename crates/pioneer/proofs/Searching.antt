-- A non-member by the last run that begins by a bay.
use Rattle.std.proofs.Common.{◌≡◌, ℕ, suc, ◌+◌, ◌-◌, ◌<◌, ◌≤◌, max, Bool, true, false, not, is_some, MatchOption, Some, None, Option, sym, refl, ap, subst, ◌∙◌, ⊎_elim, arith}
use Rattle.std.proofs.lemmas.Bool.{cases_lt, both_ways}
use Rattle.sets.specs.Search.{first_from, count_to, kth_to}
use Rattle.sets.proofs.Tests.{FirstIs, first_law, kth_by, count_mono, count_without, count_others, count_at}
use Rattle.pioneer.specs.declared.index.Pioneer.{Pioneer}
use Rattle.pioneer.specs.declared.run.Run.{Run}
use Rattle.pioneer.specs.Found.{starts_of, sums_of, member_of, BegunIs}
use Rattle.pioneer.specs.Runs.{place_of, start_of, sum_of, behind_of, IsRun}
use Rattle.pioneer.proofs.Places.{place_none, one_more}
use Rattle.pioneer.proofs.Ranks.{begun_some, gap, begun_by, last_begun, outside, rank_told}

module _ (p : Pioneer) where
  abbrev u : ℕ
  u = p.last

  abbrev P : ℕ → Bool
  P = starts_of p

  abbrev begun : ℕ → ℕ
  begun i = count_to P i

  abbrev start : ℕ → ℕ
  start r = start_of p.last p.count (starts_of p) (sums_of p) r

  abbrev sum : ℕ → ℕ
  sum r = sum_of p.last p.count (starts_of p) (sums_of p) r

  abbrev behind : ℕ → ℕ
  behind r = behind_of p.last p.count (starts_of p) (sums_of p) r

  abbrev pub other_of : ℕ → Bool
  other_of j = not (member_of p j)

  -- where no bay of the run lies behind i, the members up to i are those of the runs
  members_past : (i r : ℕ) → i ≤ u → begun i ≡ r → behind r ≤ i + 1 → count_to (member_of p) i ≡ sum r
  members_past i r h e past = ⊎_elim
      (λ none.
      let z : r ≡ 0 = omega arith in
      let less : r - 1 ≡ r = omega arith in
      omega (arith, rank_told u p.count P (sums_of p) p.lawful i r h e, ap (place_of (sums_of p) p.count) less))
      (λ some.
      let at = last_begun u p.count P (sums_of p) p.lawful i r h e some in
      let longer = at.0.longer in
      omega (arith, rank_told u p.count P (sums_of p) p.lawful i r h e, at.1))
      (cases_lt r 1)

  pub others_past : (i r : ℕ) → i ≤ u → begun i ≡ r → behind r ≤ i + 1 → count_to other_of i + sum r ≡ i
  others_past i r h e past = omega (arith, count_others (member_of p) i, members_past i r h e past)

  module _ (i : ℕ) (h : i ≤ u) where
    abbrev r : ℕ
    r = begun i

    is_run : 1 ≤ r → IsRun u p.count P (sums_of p) r
    is_run some = (some, count_mono P i u h)

    -- before the run
    pub before_run : 1 ≤ r → (start r ≤ i) × (1 ≤ start r) × (count_to other_of (start r - 1) + sum (r - 1) ≡ start r - 1)
    before_run some =
        let at = last_begun u p.count P (sums_of p) p.lawful i r h refl some in
        let s = at.0 in
        let on : r - 1 + 1 ≡ r = omega arith in
        let same : start r ≡ suc (start r - 1) = omega (arith, s.first) in
        let less : begun (start r - 1) ≡ r - 1 = omega (arith, s.begun, count_at P (start r) s.first s.marked) in
        let apart = gap u p.count P (sums_of p) p.lawful (r - 1) (omega (arith, is_run some)) in
        (at.1, s.first, others_past (start r - 1) (r - 1) (omega (arith, at.1)) less (omega (arith, apart, ap (place_of P u) on, same)))

    -- the bays from the run's end on, up to the next run
    past_run : (q : ℕ) → q ≤ u → behind r ≤ q + 1 → i ≤ q → ((j : ℕ) → i < j → j ≤ q → P j ≡ false) → count_to other_of q + sum r ≡ q
    past_run q l far later none = others_past q r l (count_without P i q later none) far

    -- behind the run, up to bay i or its end
    pub still : (q : ℕ) → q ≤ u → q ≡ max i (behind r - 1) → count_to other_of q + sum r ≡ q
    still q l e = ⊎_elim
        (λ none.
        let z : r ≡ 0 = omega arith in
        let here : behind r ≡ 0 = omega (arith, ap (place_of P u) z, ap (place_of (sums_of p) p.count) z, place_none P u, place_none (sums_of p) p.count) in
        let same : q ≡ i = omega arith in
        others_past q r l (ap begun same) (omega arith))
        (λ some.
        let at = last_begun u p.count P (sums_of p) p.lawful i r h refl some in
        let s = at.0 in
        ⊎_elim
        (λ less. let same : q ≡ i = omega arith in others_past q r l (ap begun same) (omega arith))
        (λ more. others_past q r l (begun_by u p.count P (sums_of p) p.lawful q r l (is_run some) (omega (arith, at.1)) (omega arith)) (omega arith))
        (cases_lt (behind r) (i + 2)))
        (cases_lt r 1)

    -- it is found where it does not lie in the run and no other begins before it
    pub found_kth : (k q : ℕ) → 1 ≤ k → q ≡ k + sum r → q ≤ u → behind r ≤ q → None ≡ first_from P (i + 1) (suc q - (i + 1)) → Some q ≡ kth_to other_of k u
    found_kth k q some e l past none =
        let law : FirstIs P (i + 1) (suc q - (i + 1)) None = subst (FirstIs P (i + 1) (suc q - (i + 1))) (sym none) (first_law P (i + 1) _) in
        let same : begun q ≡ r = ⊎_elim
        (λ less. ⊎_elim
        (λ zero'. omega (arith, count_mono P q i (omega arith)))
        (λ one.
        let at = last_begun u p.count P (sums_of p) p.lawful i r h refl one in
        let s = at.0 in
        omega (arith, count_mono P q i (omega arith), count_mono P (start r) q (omega arith), s.begun))
        (cases_lt r 1))
        (λ more. count_without P i q more (λ j a b. law j (omega arith) (omega arith)))
        (cases_lt q i) in
        let out = outside u p.count P (sums_of p) q r same past in
        kth_by other_of k u (Some q) (omega arith, l, ap not out, omega (arith, others_past q r l same (omega arith)))

    -- what is told of the run, or zeros where none has begun
    abbrev pub Told : ℕ × ℕ × ℕ → Type 0
    Told t = (t.0 ≡ start r) × (t.1 ≡ sum (r - 1)) × (t.2 ≡ sum r) × (t.1 ≤ t.2)

    pub told_of : {R : Run → Type 0} (o : Option Run) (t : ℕ × ℕ × ℕ) → BegunIs p i o
        → ((x : Run) → R x → (t.0 ≡ x.start) × (t.1 ≡ x.before) × (t.2 ≡ x.before + x.length)) → MatchOption o (t ≡ (0, 0, 0)) R → Told t
    told_of None t begun' means e =
        let first = ap (place_of P u) begun' ∙ place_none P u in
        let low = ap (λ (k : ℕ). place_of (sums_of p) p.count (k - 1)) begun' ∙ place_none (sums_of p) p.count in
        let high = ap (place_of (sums_of p) p.count) begun' ∙ place_none (sums_of p) p.count in
        let a : t.0 ≡ 0 = ap (λ (x : ℕ × ℕ × ℕ). x.0) e in
        let b : t.1 ≡ 0 = ap (λ (x : ℕ × ℕ × ℕ). x.1) e in
        let d : t.2 ≡ 0 = ap (λ (x : ℕ × ℕ × ℕ). x.2) e in
        (omega (arith, a, first), omega (arith, b, low), omega (arith, d, high), omega arith)
    told_of (Some x) t begun' means is =
        let m = means x is in
        let longer = (last_begun u p.count P (sums_of p) p.lawful i r h refl begun'.0).0.longer in
        (m.0 ∙ begun'.1.0, m.1 ∙ begun'.1.1, omega (arith, m.2, begun'.1.1, begun'.1.2, longer), omega (arith, m.1, m.2))

    pub behind_most : behind r ≤ u + 1
    behind_most = ⊎_elim
        (λ none.
        let z : r ≡ 0 = omega arith in
        omega (arith, ap (place_of P u) z, ap (place_of (sums_of p) p.count) z, place_none P u, place_none (sums_of p) p.count))
        (λ some. (last_begun u p.count P (sums_of p) p.lawful i r h refl some).0.within)
        (cases_lt r 1)

    pub some_run : 0 < behind r → 1 ≤ r
    some_run = begun_some u p.count P (sums_of p) p.lawful r

pub none_of : (o : Option ℕ) → is_some o ≡ false → None ≡ o
none_of None e = refl
none_of (Some q) e = absurd (both_ways _ e refl)

pub some_beyond : (f : ℕ → Bool) (i q : ℕ) (o : Option ℕ) → is_some o ≡ true → o ≡ first_from f (i + 1) (suc q - (i + 1)) → i < q
some_beyond f i q None some e = absurd (both_ways _ refl some)
some_beyond f i q (Some s) some e = let at = one_more f q i s e in omega (arith, at.0, at.1)
