-- What a set takes in the zombit form, and its parts. It lies in blocks of β bays, of which places past the last bay are non-members.
use Rattle.std.specs.Prelude.{ℕ, suc, ◌+◌, ◌-◌, ◌*◌, ◌/◌, ◌%◌, Bool, false, not, ◌&&◌, List, [], ◌∷◌, length, Some, None, Option, slice_index, slice_index_or}
use Rattle.faults.specs.Checks.{located}
use Rattle.faults.specs.declared.fault.Form as forms
use Rattle.sets.specs.Search.{kth_to}
use Rattle.sets.specs.Sets.{is_member}
use Rattle.sets.specs.Packing.{pack}
use Rattle.filling.specs.Layouts.{Layout}
use Rattle.zombit.specs.Blocks.{blocks_of, bits_before, set_of}
use Rattle.zombit.specs.Opening.{size_check, some_in, opening}
use Rattle.zombit.specs.declared.told.ZombitTold.{ZombitTold}

-- block k has a member, has a place that is none, has both
abbrev pub has_member : ℕ → List Bool → ℕ → Bool
has_member β s k = some_in (is_member s) (k * β) β

abbrev pub has_other : ℕ → List Bool → ℕ → Bool
has_other β s k = some_in (λ i. not (is_member s i)) (k * β) β

abbrev pub is_mixed : ℕ → List Bool → ℕ → Bool
is_mixed β s k = has_member β s k && has_other β s k

-- bit m of U and of O tells of block m - 1: it is all members or all non-members; it has a member
unfoldable pub uniform_bit : ℕ → List Bool → ℕ → Bool
uniform_bit β s m = not (is_mixed β s (m - 1))

unfoldable pub marked_bit : ℕ → List Bool → ℕ → Bool
marked_bit β s m = has_member β s (m - 1)

-- how many bits M has
abbrev pub mixed_length : ℕ → List Bool → ℕ
mixed_length β s = bits_before β (uniform_bit β s) (blocks_of (length s) β)

-- place j of a block, which is named by its bit in U
abbrev pub place_of : ℕ → List Bool → Option ℕ → ℕ → Bool
place_of β s (Some m) j = is_member s ((m - 1) * β + j)
place_of β s None j = false

-- the bits of M are the places of each mixed block, in order: of every β bits in turn, those of the next mixed block
unfoldable pub mixed_bit : ℕ → List Bool → ℕ → Bool
mixed_bit β s i = place_of β s (kth_to (λ m. not (uniform_bit β s m)) (suc ((i - 1) / β)) (blocks_of (length s) β)) (suc ((i - 1) % β))

-- the three parts
abbrev pub uniform_of : ℕ → List Bool → List ℕ
uniform_of β s = pack (blocks_of (length s) β) (uniform_bit β s)

abbrev pub marked_of : ℕ → List Bool → List ℕ
marked_of β s = pack (blocks_of (length s) β) (marked_bit β s)

abbrev pub mixed_of : ℕ → List Bool → List ℕ
mixed_of β s = pack (mixed_length β s) (mixed_bit β s)

abbrev pub parts_of : ℕ → List Bool → List (List ℕ)
parts_of β s = uniform_of β s ∷ marked_of β s ∷ mixed_of β s ∷ []

-- what a slip tells: the numbers, and the length of each part
abbrev pub told_of : ℕ → List Bool → ZombitTold
told_of β s = record {
  last = length s;
  size = β;
  uniform = length (uniform_of β s);
  marked = length (marked_of β s);
  mixed = length (mixed_of β s);
}

-- part i of a list of parts, from 0
abbrev pub part : List (List ℕ) → ℕ → List ℕ
part parts i = slice_index_or parts i []

-- the form in blocks of β bays
abbrev pub zombit_layout : ℕ → Layout
zombit_layout β = record {
  form = forms.TheVariants.Zombit;
  size = Some β;
  measuring = located forms.TheVariants.Zombit 0 (size_check β);
  numbers = λ s. length s ∷ β ∷ [];
  parts = parts_of β;
  opening = λ ns ps. opening (slice_index ns 0) (slice_index ns 1) (part ps 0) (part ps 1) (part ps 2);
  decoding = λ ns ps. set_of (slice_index ns 0) (slice_index ns 1) (part ps 0) (part ps 1) (part ps 2);
}
