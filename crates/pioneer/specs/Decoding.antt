-- The law of the set that a pioneer index stands for.
use Rattle.std.specs.Prelude.{◌≡◌, ℕ, ◌+◌, ◌-◌, ◌<◌, ◌≤◌, Bool, true, not, ◌&&◌, List, length}
use Rattle.sets.specs.declared.Sort.TheVariants.{Members}
use Rattle.sets.specs.Sets.{is_member, rank_of}
use Rattle.bits.specs.Bits.{bit_at}
use Rattle.pioneer.specs.Runs.{start_of, behind_of, IsRun, Lawful}

-- bay i lies in run r
abbrev pub LiesIn : ℕ → ℕ → (ℕ → Bool) → (ℕ → Bool) → ℕ → ℕ → Type 0
LiesIn u n P L i r = IsRun u n P L r × (start_of u n P L r ≤ i) × (i < behind_of u n P L r)

-- what lawful rows say of a set
pub record Tells (u n : ℕ) (P L : ℕ → Bool) (s : List Bool) : Type 0 where
  -- its members are the bays that lie in a run
  pub lies : (i : ℕ) → is_member s i ≡ true → (r : ℕ) × LiesIn u n P L i r
  pub members : (i r : ℕ) → LiesIn u n P L i r → is_member s i ≡ true
  -- there are n of them
  pub count : rank_of s Members u ≡ n
  -- bit i of P is 1 exactly if bay i is a member and the bay before it is none
  pub starts : (i : ℕ) → 1 ≤ i → i ≤ u → P i ≡ (is_member s i && not (is_member s (i - 1)))
  -- the bit of L at a member's number is 1 exactly if the bay after it is no member
  pub sums : (i : ℕ) → is_member s i ≡ true → L (rank_of s Members i) ≡ not (is_member s (i + 1))

-- u is the last bay, and lawful parts say what the set is
abbrev pub Decodes : ℕ → ℕ → List ℕ → List ℕ → List Bool → Type 0
Decodes u n starts sums s = (length s ≡ u) × (Lawful u n (bit_at starts) (bit_at sums) → Tells u n (bit_at starts) (bit_at sums) s)
