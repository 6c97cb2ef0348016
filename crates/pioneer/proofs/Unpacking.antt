-- The bits of 64 bays, by the runs that begin among them.
use Rattle.std.proofs.Common.{◌≡◌, ℕ, suc, ◌+◌, ◌-◌, ◌<◌, ◌≤◌, max, Bool, true, false, ◌&&◌, ◌||◌, leb, ltb, Some, None, Option, unwrap_or, sym, refl, ap, ◌∙◌, subst, ⊎_elim, arith, bit_and, bit_or}
use Rattle.std.proofs.lemmas.Bool.{cases_lt, lt-ltb, le-ltb, le-leb, lt-leb, and_left, and_right}
use lib.Count.{count_trailing_zeros}
use Rattle.bits.specs.Words.{Holds}
use Rattle.bits.proofs.Values.{held_same}
use Rattle.sets.specs.Search.{first_from, count_to}
use Rattle.sets.proofs.Tests.{FirstIs, first_law, count_none, count_mono, count_without}
use Rattle.pioneer.specs.declared.index.Pioneer.{Pioneer}
use Rattle.pioneer.specs.declared.run.Run.{Run}
use Rattle.pioneer.specs.Found.{starts_of, sums_of, member_of, BegunIs, WalkedTo}
use Rattle.pioneer.specs.Ones.{NoneIn}
use Rattle.pioneer.specs.Runs.{place_of, runs, start_of, sum_of, behind_of}
use Rattle.pioneer.proofs.Places.{one_more, no_more, place_law, place_by, place_none}
use Rattle.pioneer.proofs.Ranks.{gap, begun_some, outside, last_begun}
use Rattle.pioneer.proofs.Sides.{run_inside}
use Rattle.pioneer.proofs.Taking.{past, whole_held, taken, next_found, rest_none, at_within}
use Rattle.pioneer.proofs.Stretches.{either_held}

module _ (p : Pioneer) where
  abbrev u : ℕ
  u = p.last

  abbrev n : ℕ
  n = p.count

  abbrev P : ℕ → Bool
  P = starts_of p

  abbrev L : ℕ → Bool
  L = sums_of p

  -- how many runs have begun by bay i
  abbrev begun : ℕ → ℕ
  begun i = count_to P i

  sum_count : (r : ℕ) → r ≤ runs u n P L → count_to L (sum_of u n P L r) ≡ r
  sum_count r h = ⊎_elim
      (λ none.
      let z : r ≡ 0 = omega arith in
      omega (arith, z, ap (λ (k : ℕ). count_to L (place_of L n k)) z, ap (count_to L) (place_none L n), count_none L))
      (λ some. (place_law L n r some (omega (arith, p.lawful.0))).3)
      (cases_lt r 1)

  pub sum_most : (r : ℕ) → r ≤ runs u n P L → sum_of u n P L r ≤ n
  sum_most r h = ⊎_elim
      (λ none. let z : r ≡ 0 = omega arith in omega (arith, ap (place_of L n) z, place_none L n))
      (λ some. (place_law L n r some (omega (arith, p.lawful.0))).1)
      (cases_lt r 1)

  -- behind the last run that has begun no bay is a member before the next run
  out : (at i behind : ℕ) → behind ≡ behind_of u n P L (begun at) → behind ≤ i → at ≤ i → NoneIn P at i → member_of p i ≡ false
  out at i behind e past later none = outside u n P L i (begun at) (count_without P at i later none) (omega (arith, e))

  -- ---- where the walk begins

  pub walked_none : (i : ℕ) → count_to P i ≡ 0 → WalkedTo p i 0 0
  walked_none i e =
      let sum : 0 ≡ sum_of u n P L (begun i) = sym (ap (place_of L n) e ∙ place_none L n) in
      let low = ap (λ (r : ℕ). place_of L n (r - 1)) e ∙ place_none L n in
      let start = ap (place_of P u) e ∙ place_none P u in
      (sum, omega (arith, sum, low, start))

  pub walked_begun : (i : ℕ) (x : Run) → i ≤ u → BegunIs p i (Some x) → WalkedTo p i (x.before + x.length) (x.start + x.length)
  walked_begun i x h is =
      let at = (last_begun u n P L p.lawful i (begun i) h refl is.0).0 in
      (omega (arith, is.1.1, is.1.2, at.longer), omega (arith, is.1.0, is.1.2))

  -- ---- within 64 bays

  -- the runs up to bay `at` have begun, and the bits of the bays before `behind` are known
  pub record Inside (base left word sum behind : ℕ) : Type 0 where
    pub at : ℕ
    pub low : base ≤ at
    pub high : at ≤ base + 64
    pub near : at ≤ max base behind
    pub ones : Holds (past P at) base 64 left
    pub walked : WalkedTo p at sum behind
    pub bits : Holds (λ i. ltb i behind && member_of p i) base 64 word

  pub inside_first : (base x word sum behind : ℕ) → base ≤ u → Holds P base 64 x → Holds (λ i. leb (base + 1) i && ltb i behind) base 64 word → WalkedTo p base sum behind → Inside base x word sum behind
  inside_first base x word sum behind h row ones walked = record {
    at = base;
    low = omega arith;
    high = omega arith;
    near = omega arith;
    ones = whole_held P base base x (omega arith) row;
    walked = walked;
    bits = held_same (λ i. leb (base + 1) i && ltb i behind) (λ i. ltb i behind && member_of p i) base 64 word (λ i low high. ⊎_elim
        (λ less.
        let some = begun_some u n P L p.lawful (begun base) (omega (arith, walked.1)) in
        let at = last_begun u n P L p.lawful base (begun base) h refl some in
        let in_it = run_inside u n P L p.lawful i (begun base) (some, count_mono P base u h) (omega (arith, at.1)) (omega (arith, walked.1)) in
        (λ t. le-leb (base + 1) i (omega arith) t && lt-ltb i behind less t) ∙ sym (λ t. lt-ltb i behind less t && in_it t))
        (λ more. and_right (leb (base + 1) i) _ (le-ltb i behind more) ∙ sym (and_left _ (member_of p i) (le-ltb i behind more)))
        (cases_lt i behind)) ones;
  }

  pub inside_last : (base left word sum behind : ℕ) → left ≡ 0 → Inside base left word sum behind → Holds (member_of p) base 64 word × WalkedTo p (base + 64) sum behind
  inside_last base left word sum behind z i =
      let none = rest_none P base i.at left z i.low i.ones in
      let same = count_without P i.at (base + 64) i.high none in (
        held_same _ (member_of p) base 64 word (λ j low high. ⊎_elim
            (λ less. ap (λ b. b && member_of p j) (lt-ltb j behind less))
            (λ more. and_left _ (member_of p j) (le-ltb j behind more) ∙ sym (out i.at j behind i.walked.1 more (omega (arith, i.near)) (λ k a b. none k a (omega arith))))
            (cases_lt j behind)) i.bits,
        (i.walked.0 ∙ ap (sum_of u n P L) (sym same), i.walked.1 ∙ ap (behind_of u n P L) (sym same)),
      )

  -- the next run
  module _ {base left word sum behind : ℕ} (i : Inside base left word sum behind) (some : 0 < left) (start : ℕ) (here : start ≡ base + 1 + count_trailing_zeros 64 left) where
    found : Some start ≡ first_from P (i.at + 1) (suc u - (i.at + 1))
    found = ap Some here ∙ (next_found P base i.at left i.ones some u (λ j low high. absurd (omega (arith, i.low))) p.clear.0).1

    pub begins : (i.at < start) × (start ≤ u) × (P start ≡ true) × (begun start ≡ suc (begun i.at))
    begins = one_more P u i.at start found

    none : (j : ℕ) → i.at < j → j < start → P j ≡ false
    none j low high = (subst (FirstIs P (i.at + 1) (suc u - (i.at + 1))) (sym found) (first_law P (i.at + 1) _)).3 j (omega arith) high

    more : begun start ≤ runs u n P L
    more = count_mono P start u begins.1

    first_bay : start ≡ start_of u n P L (begun start)
    first_bay = place_by P u (begun start) start (omega (arith, begins.0), begins.1, begins.2, refl)

    -- its sum
    pub next_sum : (o : Option ℕ) (next : ℕ) → o ≡ first_from L (sum + 1) (suc n - (sum + 1)) → next ≡ unwrap_or o sum → (sum < next) × (next ≤ n) × (next ≡ sum_of u n P L (begun start))
    next_sum None next e v =
        let same = ap (count_to L) i.walked.0 in
        absurd (omega (
          arith,
          begins.3,
          more,
          p.lawful.0,
          sum_count (begun i.at) (omega (arith, begins.3, more)),
          same,
          no_more L n sum (omega (arith, i.walked.0, sum_most (begun i.at) (omega (arith, begins.3, more)))) e,
        ))
    next_sum (Some q) next e v =
        let one = one_more L n sum q e in
        let same = ap (count_to L) i.walked.0 in
        let place = place_by L n (begun start) q (omega (arith, one.0), one.1, one.2, omega (arith, one.3, begins.3, same, sum_count (begun i.at) (omega (arith, begins.3, more)))) in
        (omega (arith, v, one.0), omega (arith, v, one.1), v ∙ place)

    module _ (next : ℕ) (longer : sum < next) (is : next ≡ sum_of u n P L (begun start)) (to : ℕ) (e : to ≡ start + (next - sum)) where
      walked_on : WalkedTo p start next to
      walked_on =
          let less : begun start - 1 ≡ begun i.at = omega (arith, begins.3) in
          (is, omega (arith, e, first_bay, is, i.walked.0, ap (sum_of u n P L) less))

      apart : behind < start
      apart =
          let on : begun i.at + 1 ≡ begun start = omega (arith, begins.3) in
          omega (arith, gap u n P L p.lawful (begun i.at) (omega (arith, begins.3, more)), i.walked.1, first_bay, ap (start_of u n P L) on)

      bit : (j : ℕ) → base < j → ((leb start j && ltb j to) || (ltb j behind && member_of p j)) ≡ (ltb j to && member_of p j)
      bit j low = ⊎_elim
          (λ known.
          let a = lt-leb start j (omega (arith, apart)) in
          let b = lt-ltb j behind known in
          let d = lt-ltb j to (omega (arith, apart)) in
          (λ t. (a t && d t) || (b t && member_of p j)) ∙ sym (λ t. d t && member_of p j))
          (λ past. ⊎_elim
          (λ less.
          let a = lt-leb start j less in
          let b = le-ltb j behind past in
          let d = lt-ltb j to (omega arith) in
          let m = out i.at j behind i.walked.1 past (omega (arith, i.near)) (λ k x y. none k x (omega arith)) in
          (λ t. (a t && d t) || (b t && member_of p j)) ∙ sym (λ t. d t && m t))
          (λ begun'. ⊎_elim
          (λ in_it.
          let a = le-leb start j begun' in
          let d = lt-ltb j to in_it in
          let m = run_inside u n P L p.lawful j (begun start) (omega (arith, begins.3), more) (omega (arith, first_bay)) (omega (arith, walked_on.1)) in
          (λ t. (a t && d t) || (ltb j behind && member_of p j)) ∙ sym (λ t. d t && m t))
          (λ after.
          let b = le-ltb j behind past in
          let d = le-ltb j to after in
          (λ t. (leb start j && d t) || (b t && member_of p j)) ∙ and_false (leb start j) ∙ sym (λ t. d t && member_of p j))
          (cases_lt j to))
          (cases_lt j start))
          (cases_lt j behind)
        where
          and_false : (b : Bool) → ((b && false) || false) ≡ false
          and_false true = refl
          and_false false = refl

      pub inside_next : (ones : ℕ) → Holds (λ j. leb start j && ltb j to) base 64 ones → Inside base (bit_and left (left - 1)) (bit_or word ones) next to
      inside_next ones held = record {
        at = start;
        low = omega (arith, i.low, begins.0);
        high = omega (arith, here, at_within P base i.at left i.ones some);
        near = omega (arith, e, longer);
        ones = subst (λ (q : ℕ). Holds (past P q) base 64 (bit_and left (left - 1))) (sym here) (taken P base i.at left i.ones some);
        walked = walked_on;
        bits = held_same _ (λ j. ltb j to && member_of p j) base 64 (bit_or word ones) (λ j low high. bit j low) (either_held _ base word i.bits _ ones held);
      }
