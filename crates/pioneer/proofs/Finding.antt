-- What is known of the runs of an opened index.
use Rattle.std.proofs.Common.{Bool, Some, IsTrue, ◌↔◌, MatchOption, sym, refl, subst, ⊎_elim, ◌≡◌, ℕ, ◌+◌, ◌-◌, ◌<◌, ◌≤◌, min, true, false, not, None, Option, unwrap_or, ap, ◌∙◌, arith}
use Rattle.std.specs.Bool.{then_some}
use Rattle.std.proofs.lemmas.Bool.{cases_lt, both_ways}
use Rattle.sets.specs.Search.{last_to, count_to, kth_to}
use Rattle.sets.proofs.Tests.{count_at, count_mono, count_others}
use Rattle.pioneer.specs.declared.index.Pioneer.{Pioneer}
use Rattle.pioneer.specs.declared.run.Run.{Run}
use Rattle.pioneer.specs.Found.{starts_of, sums_of, member_of, RunIs, BegunIs, HeldIs}
use Rattle.pioneer.specs.Runs.{place_of}
use Rattle.pioneer.proofs.Places.{PlaceIs, place_last, kth_there}
use Rattle.pioneer.proofs.Ranks.{none_yet, last_begun, inside, outside, rank_all}
use Rattle.pioneer.proofs.Asked.{rank_in}
use Rattle.pioneer.proofs.Sides.{inside_parts}

module _ (p : Pioneer) where
  -- a run that begins at or before bay i has its sum
  pub sum_there : (i r : ℕ) → i ≤ p.last → r ≡ count_to (starts_of p) i → 1 ≤ r → None ≡ kth_to (sums_of p) r p.count → ⊥
  sum_there i r h e some =
      kth_there (sums_of p) p.count r some (omega (arith, p.lawful.0, count_mono (starts_of p) i p.last h))

  -- the sum before that of run r
  pub sum_before : (r sum before : ℕ) (o : Option ℕ) → PlaceIs (sums_of p) p.count r sum → o ≡ last_to (sums_of p) (sum - 1) → before ≡ unwrap_or o 0 → before ≡ place_of (sums_of p) p.count (r - 1)
  sum_before r sum before o at e v =
      let less : count_to (sums_of p) (sum - 1) ≡ r - 1 = omega (arith, at.3, count_at (sums_of p) sum at.0 at.2) in
      v ∙ place_last (sums_of p) p.count (sum - 1) o (omega (arith, at.1)) e ∙ ap (place_of (sums_of p) p.count) less

  -- where it begins and ends
  pub begun_low : (i : ℕ) (x : Run) → i ≤ p.last → 1 ≤ count_to (starts_of p) i → RunIs p (count_to (starts_of p) i) x → (x.start ≤ i) × (x.start + x.length ≤ p.last + 1) × (1 ≤ x.start) × (1 ≤ x.length)
  begun_low i x h some is =
      let at = last_begun p.last p.count (starts_of p) (sums_of p) p.lawful i _ h (λ _. count_to (starts_of p) i) some in
      let stands = at.0 in
      (omega (arith, at.1, is.0), omega (arith, is.0, is.2), omega (arith, is.0), omega (arith, is.2))

  pub held_by : (i : ℕ) (x : Run) → 1 ≤ count_to (starts_of p) i → RunIs p (count_to (starts_of p) i) x → i < x.start + x.length → member_of p i ≡ true
  held_by i x some is l = inside _ _ _ _ i _ (λ _. count_to (starts_of p) i) some (omega (arith, is.0, is.2))

  pub behind_by : (i : ℕ) (x : Run) → RunIs p (count_to (starts_of p) i) x → x.start + x.length ≤ i → member_of p i ≡ false
  behind_by i x is l = outside _ _ _ _ i _ (λ _. count_to (starts_of p) i) (omega (arith, is.0, is.2))

  pub held_low : (i : ℕ) (x : Run) → i ≤ p.last → (member_of p i ≡ true) × RunIs p (count_to (starts_of p) i) x → (x.start ≤ i) × (x.start + x.length ≤ p.last + 1) × (1 ≤ x.start) × (1 ≤ x.length)
  held_low i x h held = begun_low i x h (inside_parts _ _ _ _ i held.0).0 held.1

  -- the same of what was found
  pub found_low : (i : ℕ) (o : Option Run) (x : Run) → i ≤ p.last → BegunIs p i o → o ≡ Some x → (x.start ≤ i) × (x.start + x.length ≤ p.last + 1) × (1 ≤ x.start) × (1 ≤ x.length)
  found_low i o x h begun e = let at = subst (BegunIs p i) e begun in begun_low i x h at.0 at.1

  pub held_found : (i : ℕ) (o : Option Run) (x : Run) → i ≤ p.last → HeldIs p i o → o ≡ Some x → (x.start ≤ i) × (x.start + x.length ≤ p.last + 1) × (1 ≤ x.start) × (1 ≤ x.length)
  held_found i o x h held e = held_low i x h (subst (HeldIs p i) e held)

  -- the run that was found, unless bay i lies behind it
  pub held_of : {R : Run → Bool → Type 0} (i : ℕ) (o r : Option Run) → i ≤ p.last → BegunIs p i o → ((x : Run) (b : Bool) → R x b → IsTrue b ↔ ((x.start ≤ i) × (i < x.start + x.length))) → MatchOption o (r ≡ None) (λ x. (b : Bool) × R x b × (r ≡ then_some b x)) → HeldIs p i r
  held_of i None r h begun means e = subst (HeldIs p i) (sym e) (none_yet _ _ _ _ i begun)
  held_of i (Some x) r h begun means (b, holds, e) = subst (HeldIs p i) (sym e) (cut b (means x b holds))
    where
      cut : (b : Bool) → IsTrue b ↔ ((x.start ≤ i) × (i < x.start + x.length)) → HeldIs p i (then_some b x)
      cut true means = (held_by i x begun.0 begun.1 (means.0 refl).1, begun.1)
      cut false means = behind_by i x begun.1 (⊎_elim (λ less. absurd (both_ways _ refl (means.1 ((begun_low i x h begun.0 begun.1).0, less)))) (λ more. more) (cases_lt i (x.start + x.length)))

  pub members_by : (i m : ℕ) (x : Run) → i ≤ p.last → (1 ≤ count_to (starts_of p) i) × RunIs p (count_to (starts_of p) i) x → m ≡ min (i - x.start + 1) x.length → x.before + m ≡ count_to (member_of p) i
  members_by i m x h begun e =
      omega (arith, rank_in p.last p.count (starts_of p) (sums_of p) p.lawful i h begun.0, begun.1.0, begun.1.1, begun.1.2)

  -- the members and the non-members of all bays
  pub all_members : count_to (member_of p) p.last ≡ p.count
  all_members = rank_all p.last p.count (starts_of p) (sums_of p) p.lawful

  pub all_others : count_to (λ j. not (member_of p j)) p.last ≡ p.last - p.count
  all_others = omega (arith, count_others (member_of p) p.last, all_members)
