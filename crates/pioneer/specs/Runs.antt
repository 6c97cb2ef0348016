-- Runs of members, and the set that a pioneer index stands for. A run is a longest stretch of neighbouring members. The ones of the
-- row P, of u bits, are the first bays of the runs; the ones of the row L, of n bits, are the sums of the first 1, 2, .. run lengths.
use Rattle.std.specs.Prelude.{◌≡◌, ℕ, ◌+◌, ◌-◌, ◌<◌, ◌≤◌, Bool, true, ◌&&◌, List, nat_le, nat_lt}
use Rattle.std.specs.Option.{unwrap_or}
use Rattle.sets.specs.Made.{set_by}
use Rattle.sets.specs.Search.{count_to, kth_to}
use Rattle.bits.specs.Bits.{bit_at}

-- the place of the r-th one of the first n bits; 0 where there is none
unfoldable pub place_of : (ℕ → Bool) → ℕ → ℕ → ℕ
place_of row n r = unwrap_or (kth_to row r n) 0

module _ (u n : ℕ) (P L : ℕ → Bool) where
  -- how many runs there are
  abbrev pub runs : ℕ
  runs = count_to P u

  -- the first bay of run r, from 1
  abbrev pub start_of : ℕ → ℕ
  start_of r = place_of P u r

  -- how many members the first r runs have
  abbrev pub sum_of : ℕ → ℕ
  sum_of r = place_of L n r

  abbrev pub length_of : ℕ → ℕ
  length_of r = sum_of r - sum_of (r - 1)

  -- the first bay behind run r
  abbrev pub behind_of : ℕ → ℕ
  behind_of r = start_of r + length_of r

  -- bay i is a member exactly if it lies in the last run that begins at or before it
  unfoldable pub in_run : ℕ → Bool
  in_run i = nat_le 1 (count_to P i) && nat_lt i (behind_of (count_to P i))

  -- r is the number of a run
  abbrev pub IsRun : ℕ → Type 0
  IsRun r = (1 ≤ r) × (r ≤ runs)

  -- there are as many first bays as sums
  abbrev pub Equal : Type 0
  Equal = runs ≡ count_to L n

  -- the last sum counts all members
  abbrev pub Ended : Type 0
  Ended = 1 ≤ n → L n ≡ true

  -- no run reaches past the last bay
  abbrev pub Within : Type 0
  Within = (r : ℕ) → IsRun r → behind_of r ≤ u + 1

  -- no run reaches or touches the next
  abbrev pub Apart : Type 0
  Apart = (r : ℕ) → IsRun r × (r < runs) → behind_of r < start_of (r + 1)

  -- the rows make an index
  abbrev pub Lawful : Type 0
  Lawful = Equal × Ended × Within × Apart

-- the bays 1 to u, of which bay i is a member exactly if it lies in a run
abbrev pub set_of : ℕ → ℕ → List ℕ → List ℕ → List Bool
set_of u n starts sums = set_by u (in_run u n (bit_at starts) (bit_at sums))
