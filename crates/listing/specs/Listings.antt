-- A listing: next is called until it gives none or there is no room for more rows, and then the round is closed.
use Rattle.std.specs.Prelude.{◌≡◌, ℕ, zero, suc, ◌≤◌, Bool, true, List, [], ◌∷◌, length, take, Some, None, Option}
use Rattle.std.specs.List.{filter_map}
use Rattle.sets.specs.Lists.{ListOf}
use Rattle.round.specs.declared.state.Report.{Report}
use Rattle.round.specs.declared.state.Round.{Round}
use Rattle.round.specs.declared.state.Taken.{Taken}
use Rattle.round.specs.Machine.{end, common, next_from}
use Rattle.round.specs.Rounds.{free_of, class_of}
use Rattle.round.specs.States.{after_next}
use Rattle.round.specs.Stretches.{Between, Fewest}
use Rattle.listing.specs.declared.list.Listed.{Listed}

-- what each next gave, and the closing report
pub record Listing : Type 0 where
  pub rows : List Taken
  pub report : Report

abbrev pub before : Taken → Listing → Listing
before t r = record { rows = t ∷ r.rows; report = r.report }

-- what follows a next that leaves the state s: nothing if it gave none
abbrev pub onward : Option ℕ → Report → Listing → Listing
onward None s r = record { rows = []; report = s }
onward (Some b) s r = r

-- with room for m rows, from the state s on
unfoldable pub play : List Bool → List Bool → ℕ → Report → Listing
play f c zero s = record { rows = []; report = s }
play f c (suc m) s =
    let w = next_from f c s.place in
    before w.taken (onward w.taken.bay (after_next f c s) (play f c m (after_next f c s)))

-- from where a round stands on
abbrev pub play_of : {X Y : Type 0} {x : _} {y : _} → Round X Y x y → ℕ → Listing
play_of r m = play (free_of r) (class_of r) m r.state

-- what is told of a listing
abbrev pub listed_of : Listing → Listed
listed_of r = record { rows = length r.rows; report = r.report }

-- the listing that is told, where its rows stand at the front of the memory
abbrev pub written : Listed → List Taken → Listing
written told memory = record { rows = take told.rows memory; report = told.report }

-- the bays in the rows, in order
abbrev pub bays_of : List Taken → List ℕ
bays_of rows = filter_map (λ t. t.bay) rows

-- all common bays are handed out, each once and rising, by the fewest stretches that cut all bays, and the place is behind the last bay
-- of the round
pub record Complete (f c : List Bool) (r : Listing) : Type 0 where
  pub bays : ListOf (λ j. common f c j ≡ true) (bays_of r.rows)
  pub handed : r.report.handed ≡ length (bays_of r.rows)
  pub fewest : Fewest f c (Between 1 (suc (end f c))) r.report.stretches
  pub place : r.report.place ≡ suc (end f c)

-- a listing with room for a row for each bay and one more is complete
abbrev pub CompleteIn : ℕ → List Bool → List Bool → Listing → Type 0
CompleteIn room f c r = suc (end f c) ≤ room → Complete f c r
