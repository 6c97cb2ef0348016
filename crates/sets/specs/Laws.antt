-- The laws of the answers about a set, in the subject's words.
use Rattle.std.specs.Prelude.{◌≡◌, ℕ, ◌-◌, ◌<◌, ◌≤◌, Bool, true, false, not, ◌⊎◌, List, length, Some, None, Option, slice_index_or}
use Rattle.sets.specs.declared.Sort.{Sort}
use Rattle.sets.specs.declared.Sort.TheVariants.{Members, Others}
use Rattle.sets.specs.Lists.{ListOf}
use Rattle.sets.specs.Sets.{is, is_member, next_of, previous_of, rank_of, select_of}

-- i is a bay of the garage
abbrev pub Bay : List Bool → ℕ → Type 0
Bay s i = (1 ≤ i) × (i ≤ length s)

-- each bay is of one sort, by its yes or no, and what is no bay is of neither
abbrev pub SortsPart : Type 0
SortsPart =
    (s : List Bool) (i : ℕ)
    → (Bay s i → (is s Members i ≡ slice_index_or s (i - 1) false) × (is s Others i ≡ not (slice_index_or s (i - 1) false)))
    × ((Bay s i → ⊥) → (is s Members i ≡ false) × (is s Others i ≡ false))

-- the smallest bay of the sort at or after i; none where there is none
abbrev pub NextIs : List Bool → Sort → ℕ → Option ℕ → Type 0
NextIs s k i None = (j : ℕ) → i ≤ j → is s k j ≡ false
NextIs s k i (Some q) = (i ≤ q) × (is s k q ≡ true) × ((j : ℕ) → i ≤ j → j < q → is s k j ≡ false)

-- the largest bay of the sort at or before i; none where there is none
abbrev pub PreviousIs : List Bool → Sort → ℕ → Option ℕ → Type 0
PreviousIs s k i None = (j : ℕ) → j ≤ i → is s k j ≡ false
PreviousIs s k i (Some q) = (q ≤ i) × (is s k q ≡ true) × ((j : ℕ) → q < j → j ≤ i → is s k j ≡ false)

-- n is the length of the rising list of all bays of the sort from 1 to i
abbrev pub RankIs : List Bool → Sort → ℕ → ℕ → Type 0
RankIs s k i n = (bays : List ℕ) × (ListOf (λ j. (j ≤ i) × (is s k j ≡ true)) bays × (length bays ≡ n))

-- the bay of the sort up to and with which there are n of the sort; none at 0 and beyond their number
abbrev pub SelectIs : List Bool → Sort → ℕ → Option ℕ → Type 0
SelectIs s k n None = (n ≡ 0) ⊎ (rank_of s k (length s) < n)
SelectIs s k n (Some q) = (is s k q ≡ true) × (rank_of s k q ≡ n)

abbrev pub NextSmallest : Type 0
NextSmallest = (s : List Bool) (k : Sort) (i : ℕ) → NextIs s k i (next_of s k i)

abbrev pub PreviousLargest : Type 0
PreviousLargest = (s : List Bool) (k : Sort) (i : ℕ) → PreviousIs s k i (previous_of s k i)

abbrev pub RankCounts : Type 0
RankCounts = (s : List Bool) (k : Sort) (i : ℕ) → RankIs s k i (rank_of s k i)

abbrev pub SelectRanks : Type 0
SelectRanks = (s : List Bool) (k : Sort) (n : ℕ) → SelectIs s k n (select_of s k n)

-- no other answer obeys its law
abbrev pub LawsDecide : Type 0
LawsDecide =
    (s : List Bool) (k : Sort) (i : ℕ)
    → ((r : Option ℕ) → NextIs s k i r → r ≡ next_of s k i)
    × ((r : Option ℕ) → PreviousIs s k i r → r ≡ previous_of s k i)
    × ((n : ℕ) → RankIs s k i n → n ≡ rank_of s k i)
    × ((r : Option ℕ) → SelectIs s k i r → r ≡ select_of s k i)

-- a set is its last bay and its members, and no more
abbrev pub SetsByMembers : Type 0
SetsByMembers = (s t : List Bool) → length s ≡ length t → ((i : ℕ) → is_member s i ≡ is_member t i) → s ≡ t
