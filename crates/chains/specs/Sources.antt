-- What a source stands for, by what the set that a chain begins with stands for.
use Rattle.std.specs.Borrow.{Bor}
use Rattle.std.specs.Prelude.{◌≡◌, ℕ, Bool, List, drop, Some, None, Option}
use Rattle.sets.specs.Sets.{Sized}
use Rattle.forms.specs.Meant.{meant_of, meant_sized, Holds}
use Rattle.forms.specs.declared.index.Index.{Index}
use Rattle.chains.specs.declared.place.Last.{Last}
use Rattle.chains.specs.declared.source.Source.{Source}
use Rattle.chains.specs.declared.source.Source.TheVariants.{First, Filled}

abbrev pub read_as : {X : Type 0} → (X → List Bool) → Source X → List Bool
read_as meant (First set) = meant set.now
read_as meant (Filled index) = meant_of index

pub read_sized : {X : Type 0} (meant : X → List Bool) → ((x : X) → Sized (meant x)) → (source : Source X) → Sized (read_as meant source)
read_sized meant sized (First set) = sized set.now
read_sized meant sized (Filled index) = meant_sized index

-- the first set where nothing was filled, and else an index that holds what was told last, from where it lies in these memories
abbrev pub Latest : {X : Type 0} → Option Last → Bor X → List ℕ → List ℕ → Source X → Type 0
Latest None set bytes numbers source = source ≡ First set
Latest (Some l) set bytes numbers source = (index : Index) × (source ≡ Filled index) × Holds index l.told (drop l.bytes_at bytes) (drop l.numbers_at numbers)
