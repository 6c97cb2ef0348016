-- The laws of the two sorts, of next, previous and select.
use Rattle.std.proofs.Common.{◌≡◌, ℕ, suc, ◌-◌, Bool, false, List, length, Some, None, Option, ⊎_elim, arith}
use Rattle.std.proofs.lemmas.Bool.{cases_lt}
use Rattle.sets.specs.declared.Sort.{Sort}
use Rattle.sets.specs.declared.Sort.TheVariants.{Members, Others}
use Rattle.sets.specs.Sets.{is, next_of, previous_of, rank_of, select_of}
use Rattle.sets.specs.Laws.{Bay, NextIs, PreviousIs, SelectIs, SortsPart, NextSmallest, PreviousLargest, SelectRanks}
use Rattle.sets.proofs.Bays.{is_beyond, is_none, is_inside}
use Rattle.sets.proofs.Tests.{FirstIs, LastIs, KthIs, first_law, last_law, kth_law}

is_outside : (s : List Bool) (k : Sort) (i : ℕ) → (Bay s i → ⊥) → is s k i ≡ false
is_outside s k i out =
    ⊎_elim
    (λ beyond. is_beyond s k i beyond)
    (λ within. is_none s k i (⊎_elim (λ z. omega arith) (λ some. absurd (out (some, within))) (cases_lt i 1)))
    (cases_lt (length s) i)

pub sorts_part : SortsPart
sorts_part s i = (
  λ bay. (is_inside s Members i bay.0 bay.1, is_inside s Others i bay.0 bay.1),
  λ out. (is_outside s Members i out, is_outside s Others i out),
)

next_from_lem : (s : List Bool) (k : Sort) (i : ℕ) (r : Option ℕ) → FirstIs (is s k) i (suc (length s) - i) r → NextIs s k i r
next_from_lem s k i None law = λ j l. ⊎_elim (λ g. is_beyond s k j g) (λ g. law j l (omega arith)) (cases_lt (length s) j)
next_from_lem s k i (Some q) law = (law.0, law.2, law.3)

pub next_smallest : NextSmallest
unfolding next_of
next_smallest s k i = next_from_lem s k i _ (first_law (is s k) i (suc (length s) - i))

previous_from : (s : List Bool) (k : Sort) (i : ℕ) (r : Option ℕ) → LastIs (is s k) i r → PreviousIs s k i r
previous_from s k i None law = λ j l. ⊎_elim (λ g. law j (omega arith) l) (λ g. is_none s k j (omega arith)) (cases_lt 0 j)
previous_from s k i (Some q) law = (law.1, law.2, law.3)

pub previous_largest : PreviousLargest
unfolding previous_of
previous_largest s k i = previous_from s k i _ (last_law (is s k) i)

select_from : (s : List Bool) (k : Sort) (n : ℕ) (r : Option ℕ) → KthIs (is s k) n (length s) r → SelectIs s k n r
unfolding rank_of
select_from s k n None law = law
select_from s k n (Some q) law = (law.2, law.3)

pub select_ranks : SelectRanks
unfolding select_of
select_ranks s k n = select_from s k n _ (kth_law (is s k) n (length s))
