-- What a set of bays is, and what is asked of one. A set is a row of yes and no: the answer for bay i stands at place i - 1,
-- counted from 0, and the length of the row is the last bay.
use Rattle.std.specs.Prelude.{ℕ, zero, suc, ◌-◌, ◌≤◌, Bool, false, not, ◌&&◌, List, length, Option, nat_lt, slice_index_or}
use Rattle.sets.specs.declared.Sort.{Sort}
use Rattle.sets.specs.declared.Sort.TheVariants.{Members, Others}
use Rattle.sets.specs.Search.{first_from, last_to, count_to, kth_to}

-- a yes makes a member, a no a non-member
abbrev pub fits : Sort → Bool → Bool
fits Members b = b
fits Others b = not b

-- how many of n bays are of the sort, where m of them are members
abbrev pub share : Sort → ℕ → ℕ → ℕ
share Members m n = m
share Others m n = n - m

-- bay i is of the sort; 0 and what lies beyond the last bay are of neither
unfoldable pub is : List Bool → Sort → ℕ → Bool
is s k zero = false
is s k (suc j) = nat_lt j (length s) && fits k (slice_index_or s j false)

abbrev pub is_member : List Bool → ℕ → Bool
is_member s i = is s Members i

-- the smallest bay of the sort at or after i
unfoldable pub next_of : List Bool → Sort → ℕ → Option ℕ
next_of s k i = first_from (is s k) i (suc (length s) - i)

-- the largest bay of the sort at or before i
unfoldable pub previous_of : List Bool → Sort → ℕ → Option ℕ
previous_of s k i = last_to (is s k) i

-- how many bays of the sort lie from 1 to i
unfoldable pub rank_of : List Bool → Sort → ℕ → ℕ
rank_of s k i = count_to (is s k) i

-- the n-th smallest bay of the sort
unfoldable pub select_of : List Bool → Sort → ℕ → Option ℕ
select_of s k n = kth_to (is s k) n (length s)

-- what the last bay of a garage may be
abbrev pub LastBay : ℕ → Type 0
LastBay u = (1 ≤ u) × (u ≤ 65535)

abbrev pub Sized : List Bool → Type 0
Sized s = LastBay (length s)
