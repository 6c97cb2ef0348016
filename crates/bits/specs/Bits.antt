-- Bitvectors: rows of bits in bytes.
use Rattle.std.specs.Prelude.{ℕ, ◌-◌, ◌/◌, ◌%◌, ◌^◌, Bool, List, ◌==◌, slice_index}
use Rattle.sets.specs.declared.Sort.{Sort}
use Rattle.sets.specs.Made.{of_sort}

-- bit i, from 1, is in byte (i - 1) / 8, counted from 0, where it is worth 2 ^ ((i - 1) % 8); past the last byte it is 0
unfoldable pub bit_at : List ℕ → ℕ → Bool
bit_at bytes i = slice_index bytes ((i - 1) / 8) / 2 ^ ((i - 1) % 8) % 2 == 1

-- a bitvector is a set of numbers: its ones are the members
abbrev pub is_bit : List ℕ → Sort → ℕ → Bool
is_bit bytes sort = of_sort sort (bit_at bytes)
