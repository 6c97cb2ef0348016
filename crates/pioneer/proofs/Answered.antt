-- What is answered of the test of an opened index is answered of its set.
use Rattle.std.proofs.Common.{◌≡◌, ℕ, suc, ◌+◌, ◌-◌, ◌≤◌, min, max, Bool, ltb, not, List, is_some, IsSomeAnd, MatchOption, Some, None, Option, sym, ap, ◌∙◌, ⊎_elim, arith}
use Rattle.std.specs.Bool.{then_some}
use Rattle.std.proofs.lemmas.Bool.{cases_lt, ltb-true, ltb-false}
use Rattle.sets.specs.declared.Sort.{Sort}
use Rattle.sets.specs.declared.Sort.TheVariants.{Members}
use Rattle.sets.specs.Made.{of_sort}
use Rattle.sets.specs.Search.{first_from, last_to, count_to}
use Rattle.sets.specs.Sets.{is_member, next_of, previous_of}
use Rattle.sets.proofs.Bays.{is_none}
use Rattle.sets.proofs.Made.{made_is, made_next, made_previous}
use Rattle.sets.proofs.Tests.{count_none, last_by}
use Rattle.pioneer.specs.declared.index.Pioneer.{Pioneer}
use Rattle.pioneer.specs.declared.run.Run.{Run}
use Rattle.pioneer.specs.Found.{starts_of, member_of, BegunIs, HeldIs}
use Rattle.pioneer.specs.Runs.{set_of}
use Rattle.pioneer.proofs.Ranks.{none_yet}
use Rattle.pioneer.proofs.Asked.{kept, last_here, none_to_here, last_of_run, previous_before}
use Rattle.pioneer.proofs.Finding.{held_low}

module _ (p : Pioneer) where
  -- the set of the index
  abbrev pub meant : List Bool
  meant = set_of p.last p.count p.starts.now p.sums.now

  pub member_is : (i : ℕ) → i ≤ p.last → member_of p i ≡ is_member meant i
  member_is i h = ⊎_elim
      (λ less.
      let z : i ≡ 0 = omega arith in
      none_yet _ _ _ _ i (ap (count_to (starts_of p)) z ∙ count_none (starts_of p)) ∙ sym (is_none meant Members i z))
      (λ some. sym (made_is p.last (member_of p) Members i some h))
      (cases_lt i 1)

  pub holds_by : (i : ℕ) (o : Option Run) → i ≤ p.last → HeldIs p i o → is_some o ≡ is_member meant i
  holds_by i None h is = sym is ∙ member_is i h
  holds_by i (Some x) h is = sym is.0 ∙ member_is i h

  pub next_by : (k : Sort) (i from : ℕ) (o : Option ℕ) → from ≡ max i 1 → o ≡ first_from (of_sort k (member_of p)) from (suc p.last - from) → o ≡ next_of meant k i
  next_by k i from o e answer =
      answer ∙ ap (λ (m : ℕ). first_from (of_sort k (member_of p)) m (suc p.last - m)) e ∙ made_next p.last (member_of p) k i

  pub previous_by : (k : Sort) (i to : ℕ) (o : Option ℕ) → to ≡ min i p.last → o ≡ last_to (of_sort k (member_of p)) to → o ≡ previous_of meant k i
  previous_by k i to o e answer =
      answer ∙ ap (last_to (of_sort k (member_of p))) e ∙ made_previous p.last (member_of p) k i

  -- the last member up to bay i, by the run that begins there or before
  pub last_member : {R : Run → ℕ → Type 0} (i : ℕ) (o : Option Run) (r : Option ℕ) → i ≤ p.last → BegunIs p i o → ((x : Run) (q : ℕ) → R x q → q ≡ min i (x.start + x.length - 1)) → MatchOption o (r ≡ None) (λ x. IsSomeAnd r (R x)) → r ≡ last_to (member_of p) i
  last_member i None r h begun means e = e ∙ none_to_here _ _ _ _ p.lawful i begun
  last_member i (Some x) None h begun means none = absurd none
  last_member i (Some x) (Some q) h begun means is =
      last_of_run _ _ _ _ p.lawful i q h begun.0 (omega (arith, means x q is, begun.1.0, begun.1.2))

  -- the last non-member up to bay i, which is bay i itself unless a run holds it
  pub last_other : {R : Run → Type 0} (i : ℕ) (o : Option Run) (q : ℕ) → i ≤ p.last → HeldIs p i o → ((x : Run) → R x → q ≡ x.start - 1) → MatchOption o (q ≡ i) R → then_some (ltb 0 q) q ≡ last_to (λ j. not (member_of p j)) i
  last_other i None q h held means same =
      kept (ltb 0 q) q _
      (λ some. ap Some same ∙ last_here (λ j. not (member_of p j)) i (omega (arith, ltb-true 0 q some)) (ap not held))
      (λ none. last_by _ i None (λ j a b. absurd (omega (arith, ltb-false 0 q none))))
  last_other i (Some x) q h held means is =
      let low = held_low p i x h held in
      previous_before _ _ _ _ p.lawful i h held.0 q (omega (arith, means x is, held.1.0))
