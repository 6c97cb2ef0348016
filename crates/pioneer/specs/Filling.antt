-- What a set takes in the pioneer form, and its parts.
use Rattle.std.specs.Prelude.{ℕ, ◌+◌, ◌-◌, Bool, not, ◌&&◌, List, [], ◌∷◌, length, Ok, None, slice_index, slice_index_or}
use Rattle.std.specs.Option.{unwrap_or}
use Rattle.faults.specs.declared.fault.Form as forms
use Rattle.filling.specs.Layouts.{Layout}
use Rattle.sets.specs.declared.Sort.TheVariants.{Members}
use Rattle.sets.specs.Sets.{is_member, rank_of, select_of}
use Rattle.sets.specs.Packing.{pack}
use Rattle.pioneer.specs.declared.told.PioneerTold.{PioneerTold}
use Rattle.pioneer.specs.Opening.{opening}
use Rattle.pioneer.specs.Runs.{set_of}

-- how many members there are
abbrev pub count_of : List Bool → ℕ
count_of s = rank_of s Members (length s)

-- bay i is a member and the bay before it is none
abbrev pub begins : List Bool → ℕ → Bool
begins s i = is_member s i && not (is_member s (i - 1))

-- the bay behind the m-th member is no member
abbrev pub ends : List Bool → ℕ → Bool
ends s m = not (is_member s (unwrap_or (select_of s Members m) 0 + 1))

-- a bit for each bay: 1 exactly if a run begins there
abbrev pub starts_part : List Bool → List ℕ
starts_part s = pack (length s) (begins s)

-- a bit for each member: 1 exactly if a run ends with it
abbrev pub sums_part : List Bool → List ℕ
sums_part s = pack (count_of s) (ends s)

abbrev pub parts_of : List Bool → List (List ℕ)
parts_of s = starts_part s ∷ sums_part s ∷ []

abbrev pub told_of : List Bool → PioneerTold
told_of s = record { last = length s; count = count_of s; starts = length (starts_part s); sums = length (sums_part s) }

abbrev pub pioneer_layout : Layout
pioneer_layout = record {
  form = forms.TheVariants.Pioneer;
  size = None;
  measuring = Ok tt;
  numbers = λ s. length s ∷ count_of s ∷ [];
  parts = parts_of;
  opening = λ ns ps. opening (slice_index ns 0) (slice_index ns 1) (slice_index_or ps 0 []) (slice_index_or ps 1 []);
  decoding = λ ns ps. set_of (slice_index ns 0) (slice_index ns 1) (slice_index_or ps 0 []) (slice_index_or ps 1 []);
}
