-- The laws of count, nearest and pick.
use Rattle.std.proofs.Common.{◌≡◌, ℕ, zero, suc, ◌+◌, ◌-◌, ◌<◌, ◌≤◌, Bool, true, false, cond, ◌&&◌, leb, ◌⊎◌, List, length, Some, None, Ok, Err, Option, sym, refl, ap, ◌∙◌, inl, inr, ⊎_elim, arith}
use Rattle.std.specs.Option.{ok_or}
use Rattle.faults.specs.declared.fault.Refusal.TheVariants.{TooFew}
use Rattle.std.proofs.lemmas.Bool.{cond-true, cond-false, cond_both, cases_Bool, cases_lt, and_parts, and_from, and_left, and_right, both_ways, le-leb, lt-leb, leb-true, leb-false}
use Rattle.sets.specs.Lists.{ListOf}
use Rattle.sets.specs.Search.{count_to}
use Rattle.sets.specs.Sets.{is, is_member, next_of, previous_of, rank_of, select_of}
use Rattle.sets.specs.Laws.{NextIs, PreviousIs, SelectIs}
use Rattle.sets.specs.declared.Sort.TheVariants.{Members}
use Rattle.sets.proofs.Lawful.{next_smallest, previous_largest, select_ranks}
use Rattle.sets.proofs.Only.{rank_mono, rank_less}
use Rattle.sets.proofs.Ranks.{counted}
use Rattle.sets.proofs.Tests.{count_none, count_here, count_on}
use Rattle.round.specs.Answers.{Nearest, PickIs}
use Rattle.round.specs.Calls.{members_in, count_in, nearer, nearest_to, up_to, pick_from}

-- ---- count

module _ (f : List Bool) (a : ℕ) where
  abbrev from : ℕ → Bool
  from j = leb a j && is_member f j

  none_before : (b : ℕ) → b < a → count_to from b ≡ 0
  none_before zero l = count_none from
  none_before (suc b) l = count_on from b (and_left _ _ (lt-leb a (suc b) l)) ∙ none_before b (omega arith)

  -- the members from a on, and those before a
  parts : (b : ℕ) → 1 ≤ a → a ≤ suc b → count_to from b + count_to (is f Members) (a - 1) ≡ count_to (is f Members) b
  parts zero l h =
      let one : a - 1 ≡ 0 = omega arith in
      omega (arith, count_none from, count_none (is f Members), ap (count_to (is f Members)) one)
  parts (suc b) l h =
      ⊎_elim
      (λ within.
      let ih = parts b l within in
      ⊎_elim
      (λ e. omega (arith, count_here from b (and_from _ _ (le-leb a (suc b) within) e), count_here (is f Members) b e))
      (λ e. omega (arith, count_on from b (and_right _ _ e), count_on (is f Members) b e))
      (cases_Bool (is f Members (suc b))))
      (λ beyond.
      let same : a - 1 ≡ suc b = omega arith in
      omega (arith, none_before (suc b) (omega arith), ap (count_to (is f Members)) same))
      (⊎_elim (λ x. inr x) (λ x. inl x) (cases_lt (suc b) a))

pub members_parts : (f : List Bool) (a b : ℕ) → 1 ≤ a → a ≤ b → members_in f a b + rank_of f Members (a - 1) ≡ rank_of f Members b
unfolding members_in rank_of
members_parts f a b l h = parts f a b l (omega arith)

pub counted_ok : (f : List Bool) (w a b n : ℕ) → 1 ≤ a → a ≤ b → b ≤ w → n ≡ members_in f a b → Ok n ≡ count_in f w a b
counted_ok f w a b n l h t e =
    ap Ok e ∙ sym (cond-true (leb 1 a && leb a b) _ _ (and_from _ _ (le-leb 1 a l) (le-leb a b h)) ∙ cond-true (leb b w) _ _ (le-leb b w t))

-- a list of the members from a to b
pub members_listed : (f : List Bool) (a b n : ℕ) → n ≡ members_in f a b → (bays : List ℕ) × (ListOf (λ j. (a ≤ j) × (j ≤ b) × (is_member f j ≡ true)) bays × (length bays ≡ n))
unfolding members_in is
members_listed f a b n e =
    let all = counted (from f a) (and_right (leb a 0) (is_member f 0) refl) b in (
      all.0,
      (
        record {
          rising = all.1.0.rising;
          all = λ j h. all.1.0.all j (h.1, and_from _ _ (le-leb a j h.0) h.2);
          only = λ j m. let h = all.1.0.only j m in let parts' = and_parts _ _ h.1 in (leb-true a j parts'.0, h.0, parts'.1);
        },
        all.1.1 ∙ sym e,
      ),
    )

-- ---- nearest

module _ (f : List Bool) (w p : ℕ) (in-round : p ≤ w) where
  abbrev Near : Option ℕ → Type 0
  Near r = Nearest f w p r

  -- where a is the last member up to p, each is at or before a, or at or after p
  low : (a j : ℕ) → PreviousIs f Members p (Some a) → is_member f j ≡ true → (j ≤ a) ⊎ (p < j)
  low a j law e =
      ⊎_elim (λ l. ⊎_elim (λ h. inr h) (λ h. absurd (both_ways _ (law.2 j l h) e)) (cases_lt p j)) (λ h. inl h) (cases_lt a j)

  high : (b j : ℕ) → NextIs f Members p (Some b) → is_member f j ≡ true → (b ≤ j) ⊎ (j < p)
  high b j law e =
      ⊎_elim (λ l. ⊎_elim (λ h. inr h) (λ h. absurd (both_ways _ (law.2 j h l) e)) (cases_lt j p)) (λ h. inl h) (cases_lt j b)

  -- each member lies at or before a, or at or after b
  outside : (a b j : ℕ) → PreviousIs f Members p (Some a) → NextIs f Members p (Some b) → is_member f j ≡ true → (j ≤ a) ⊎ (b ≤ j)
  outside a b j below above e =
      ⊎_elim (λ l. inl l) (λ l. ⊎_elim (λ h. inr h) (λ h. absurd (omega arith)) (high b j above e)) (low a j below e)

  only_below : (a : ℕ) → PreviousIs f Members p (Some a) → ((j : ℕ) → j ≤ w → p < j → is_member f j ≡ false) → Near (Some a)
  only_below a below out =
      (omega (arith, below.0), below.1, λ j l e. ⊎_elim (λ h. (omega (arith, below.0), λ same. omega (arith, below.0))) (λ h. absurd (both_ways _ (out j l h) e)) (low a j below e))

  only_above : (b : ℕ) → b ≤ w → NextIs f Members p (Some b) → ((j : ℕ) → j < p → is_member f j ≡ false) → Near (Some b)
  only_above b top above out =
      (top, above.1, λ j l e. ⊎_elim (λ h. (omega (arith, above.0), λ same. omega (arith, above.0))) (λ h. absurd (both_ways _ (out j h) e)) (high b j above e))

  of_two : (a b : ℕ) → b ≤ w → PreviousIs f Members p (Some a) → NextIs f Members p (Some b) → Near (nearer p (Some a) (Some b))
  of_two a b top below above =
      cond_both (leb (p - a) (b - p)) (Some a) (Some b) Near
      (λ t. let less : p - a ≤ b - p = leb-true (p - a) (b - p) t in (
        omega (arith, below.0),
        below.1,
        λ j l e. ⊎_elim
            (λ h. (omega (arith, below.0), λ same. omega (arith, below.0)))
            (λ h. (omega (arith, below.0, above.0), λ same. omega (arith, below.0, above.0)))
            (outside a b j below above e),
      ))
      (λ t. let more : b - p < p - a = leb-false (p - a) (b - p) t in (
        top,
        above.1,
        λ j l e. ⊎_elim
            (λ h. (omega (arith, below.0, above.0), λ same. absurd (omega (arith, below.0, above.0))))
            (λ h. (omega (arith, above.0), λ same. omega (arith, above.0)))
            (outside a b j below above e),
      ))

  nearer_is : (below above : Option ℕ) → PreviousIs f Members p below → NextIs f Members p above → Near (nearer p below (up_to w above))
  nearer_is None None lb la = λ j l. ⊎_elim (λ h. la j (omega arith)) (λ h. lb j h) (cases_lt p j)
  nearer_is None (Some b) lb la =
      cond_both (leb b w) (Some b) None Near
      (λ t. only_above b (leb-true b w t) la (λ j h. lb j (omega arith)))
      (λ t. let past : w < b = leb-false b w t in λ j l. ⊎_elim (λ h. la.2 j (omega arith) (omega arith)) (λ h. lb j h) (cases_lt p j))
  nearer_is (Some a) None lb la = only_below a lb (λ j l h. la j (omega arith))
  nearer_is (Some a) (Some b) lb la =
      cond_both (leb b w) (Some b) None (λ x. Near (nearer p (Some a) x))
      (λ t. of_two a b (leb-true b w t) lb la)
      (λ t. let past : w < b = leb-false b w t in only_below a lb (λ j l h. la.2 j (omega arith) (omega arith)))

pub nearest_is : (f : List Bool) (w p : ℕ) → p ≤ w → Nearest f w p (nearest_to f w p)
nearest_is f w p l = nearer_is f w p l (previous_of f Members p) (next_of f Members p) (previous_largest f Members p) (next_smallest f Members p)

-- ---- pick

module _ (f : List Bool) (w k : ℕ) (some : 1 ≤ k) (within : w ≤ length f) where
  -- what is picked of a bay that select gave
  pub record Picks (r : Option ℕ) : Type 0 where
    pub answer : ok_or (up_to w r) TooFew ≡ cond (leb k (rank_of f Members w)) (ok_or r TooFew) (Err TooFew)
    pub law : PickIs f w k (ok_or (up_to w r) TooFew)

  too_few : (r : Option ℕ) → up_to w r ≡ None → rank_of f Members w < k → Picks r
  too_few r e l = record {
    answer = ap (λ (o : Option ℕ). ok_or o TooFew) e ∙ sym (cond-false (leb k (rank_of f Members w)) (ok_or r TooFew) (Err TooFew) (lt-leb k (rank_of f Members w) l));
    law = rw e (inr (refl, (some, l)));
  }

  pick_is : (r : Option ℕ) → SelectIs f Members k r → Picks r
  pick_is None law =
      too_few None refl (⊎_elim (λ z. omega arith) (λ less. omega (arith, rank_mono f Members w (length f) within)) law)
  pick_is (Some q) law =
      ⊎_elim
      (λ past. too_few (Some q) (cond-false (leb q w) (Some q) None (lt-leb q w past)) (omega (arith, rank_less f Members w q past law.0, law.1)))
      (λ here.
      let e : up_to w (Some q) ≡ Some q = cond-true (leb q w) (Some q) None (le-leb q w here) in
      let many : k ≤ rank_of f Members w = omega (arith, rank_mono f Members q w here, law.1) in
      record {
        answer = ap (λ (o : Option ℕ). ok_or o TooFew) e ∙ sym (cond-true (leb k (rank_of f Members w)) (Ok q) (Err TooFew) (le-leb k (rank_of f Members w) many));
        law = rw e (here, law.0, law.1);
      })
      (cases_lt w q)

  pub picks : Picks (select_of f Members k)
  picks = pick_is (select_of f Members k) (select_ranks f Members k)

  pub picked_from : ok_or (up_to w (select_of f Members k)) TooFew ≡ pick_from f w k
  picked_from = picks.answer ∙ sym (cond-true (leb 1 k) _ _ (le-leb 1 k some))

  pub picked_is : PickIs f w k (ok_or (up_to w (select_of f Members k)) TooFew)
  picked_is = picks.law
