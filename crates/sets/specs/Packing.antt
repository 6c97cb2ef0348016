-- Bitvectors: rows of bits in bytes, made from the number of the bits and a test of them.
use Rattle.std.specs.Prelude.{ℕ, zero, suc, ◌+◌, ◌*◌, ◌/◌, Bool, true, false, ◌&&◌, List, map, nat_le}
use Rattle.std.specs.List.{range_with_len}
use Rattle.sets.specs.Sets.{is_member}

abbrev pub digit_of : Bool → ℕ
digit_of true = 1
digit_of false = 0

-- the number whose m binary digits, the lowest first, tell which of the m numbers after p pass
unfoldable pub value_of : (ℕ → Bool) → ℕ → ℕ → ℕ
value_of f p zero = 0
value_of f p (suc m) = digit_of (f (suc p)) + 2 * value_of f (suc p) m

-- the bytes that n bits take
abbrev pub bytes_for : ℕ → ℕ
bytes_for n = (n + 7) / 8

-- the bytes of the bitvector of n bits, of which bit i is 1 exactly if i passes
unfoldable pub pack : ℕ → (ℕ → Bool) → List ℕ
pack n f = map (λ k. value_of (λ i. nat_le i n && f i) (8 * k) 8) (range_with_len 0 (bytes_for n))

-- the i-th bay after the first p is a member
abbrev pub member_after : List Bool → ℕ → ℕ → Bool
member_after s p i = is_member s (p + i)
