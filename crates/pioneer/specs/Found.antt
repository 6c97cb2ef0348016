-- The run in which, or behind which, a bay falls.
use Rattle.std.specs.Prelude.{◌≡◌, ℕ, ◌-◌, ◌≤◌, Bool, true, false, Some, None, Option}
use Rattle.sets.specs.Search.{count_to}
use Rattle.bits.specs.Bits.{bit_at}
use Rattle.pioneer.specs.declared.index.Pioneer.{Pioneer}
use Rattle.pioneer.specs.declared.run.Run.{Run}
use Rattle.pioneer.specs.Runs.{start_of, sum_of, length_of, behind_of, in_run}

-- the rows of an index
abbrev pub starts_of : Pioneer → ℕ → Bool
starts_of p = bit_at p.starts.now

abbrev pub sums_of : Pioneer → ℕ → Bool
sums_of p = bit_at p.sums.now

-- bay i is a member of its set
abbrev pub member_of : Pioneer → ℕ → Bool
member_of p = in_run p.last p.count (starts_of p) (sums_of p)

-- what is told of run r: its first bay, the members before it, and its length
abbrev pub RunIs : Pioneer → ℕ → Run → Type 0
RunIs p r x =
    (x.start ≡ start_of p.last p.count (starts_of p) (sums_of p) r)
    × (x.before ≡ sum_of p.last p.count (starts_of p) (sums_of p) (r - 1))
    × (x.length ≡ length_of p.last p.count (starts_of p) (sums_of p) r)

-- the last run that begins at or before bay i; none where none does
abbrev pub BegunIs : Pioneer → ℕ → Option Run → Type 0
BegunIs p i None = count_to (starts_of p) i ≡ 0
BegunIs p i (Some x) = (1 ≤ count_to (starts_of p) i) × RunIs p (count_to (starts_of p) i) x

-- the run that bay i lies in; none where it is no member
abbrev pub HeldIs : Pioneer → ℕ → Option Run → Type 0
HeldIs p i None = member_of p i ≡ false
HeldIs p i (Some x) = (member_of p i ≡ true) × RunIs p (count_to (starts_of p) i) x

-- by bay i: how many members the runs have that have begun, and the first bay behind the last of them
abbrev pub WalkedTo : Pioneer → ℕ → ℕ → ℕ → Type 0
WalkedTo p i sum behind =
    (sum ≡ sum_of p.last p.count (starts_of p) (sums_of p) (count_to (starts_of p) i))
    × (behind ≡ behind_of p.last p.count (starts_of p) (sums_of p) (count_to (starts_of p) i))
