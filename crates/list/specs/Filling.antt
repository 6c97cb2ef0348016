-- What a set takes in the list form, and its parts.
use Rattle.std.specs.Prelude.{ℕ, Bool, List, [], ◌∷◌, filter, length, Ok, None, slice_index, slice_index_or}
use Rattle.std.specs.List.{range_with_len}
use Rattle.faults.specs.declared.fault.Form as forms
use Rattle.filling.specs.Layouts.{Layout}
use Rattle.sets.specs.Sets.{is_member}
use Rattle.list.specs.declared.told.ListTold.{ListTold}
use Rattle.list.specs.Decoding.{set_of}
use Rattle.list.specs.Opening.{opening}

-- the members, as rising numbers
unfoldable pub numbers_of : List Bool → List ℕ
numbers_of s = filter (is_member s) (range_with_len 1 (length s))

abbrev pub parts_of : List Bool → List (List ℕ)
parts_of s = numbers_of s ∷ []

-- what opening takes of the set, and the length of what is written
abbrev pub told_of : List Bool → ListTold
told_of s = record { last = length s; numbers = length (numbers_of s) }

abbrev pub list_layout : Layout
list_layout = record {
  form = forms.TheVariants.List;
  size = None;
  measuring = Ok tt;
  numbers = λ s. length s ∷ [];
  parts = parts_of;
  opening = λ numbers parts. opening (slice_index numbers 0) (slice_index_or parts 0 []);
  decoding = λ numbers parts. set_of (slice_index numbers 0) (slice_index_or parts 0 []);
}
