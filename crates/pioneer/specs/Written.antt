-- What is written of the two parts, as far as the bays have been passed.
use Rattle.std.specs.Prelude.{◌≡◌, ℕ, ◌≤◌, Bool, List, length}
use Rattle.bits.specs.Bits.{bit_at}
use Rattle.bits.specs.Checks.{Whole}
use Rattle.bits.specs.Rows.{first_bits}
use Rattle.pioneer.specs.Filling.{count_of, ends}
use Rattle.sets.specs.declared.Sort.TheVariants.{Members}
use Rattle.sets.specs.Lists.{over}
use Rattle.sets.specs.Packing.{pack}
use Rattle.sets.specs.Sets.{is_member, rank_of}

-- the bytes are as many as the bays take, and tell of each number whether it is that of a member
abbrev pub TellsBays : List Bool → List ℕ → Type 0
TellsBays s row = Whole (length s) row × ((i : ℕ) → 1 ≤ i → bit_at row i ≡ is_member s i)

-- over the front of the old memory stand the sums of the runs that end by bay i
abbrev pub SumsTo : List Bool → List ℕ → ℕ → List ℕ → Type 0
SumsTo s old i bytes = bytes ≡ over (pack (count_of s) (first_bits (rank_of s Members i) (ends s))) old
