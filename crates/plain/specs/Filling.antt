-- What a set takes in the plain form, and its parts.
use Rattle.std.specs.Prelude.{ℕ, Bool, List, [], ◌∷◌, length, Ok, None, slice_index, slice_index_or}
use Rattle.faults.specs.declared.fault.Form as forms
use Rattle.filling.specs.Layouts.{Layout}
use Rattle.sets.specs.Sets.{is_member}
use Rattle.sets.specs.Packing.{pack}
use Rattle.plain.specs.declared.told.PlainTold.{PlainTold}
use Rattle.plain.specs.Decoding.{set_of}
use Rattle.plain.specs.Opening.{opening}

-- the bitvector with a bit for each bay: bit i is 1 exactly if bay i is a member
abbrev pub bits_of : List Bool → List ℕ
bits_of s = pack (length s) (is_member s)

abbrev pub parts_of : List Bool → List (List ℕ)
parts_of s = bits_of s ∷ []

-- what opening takes of the set, and the length of what is written
abbrev pub told_of : List Bool → PlainTold
told_of s = record { last = length s; bits = length (bits_of s) }

abbrev pub plain_layout : Layout
plain_layout = record {
  form = forms.TheVariants.Plain;
  size = None;
  measuring = Ok tt;
  numbers = λ s. length s ∷ [];
  parts = parts_of;
  opening = λ numbers parts. opening (slice_index numbers 0) (slice_index_or parts 0 []);
  decoding = λ numbers parts. set_of (slice_index numbers 0) (slice_index_or parts 0 []);
}
