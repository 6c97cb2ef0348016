-- What was worked out by hand about the sets of the worked garage, as one list.
use Rattle.std.specs.Prelude.{◌≡◌, ℕ, suc, Bool, List, [], ◌∷◌, Some, None, Ok, Err, Option, Result}
use Rattle.faults.specs.Numbers.{refusal_number}
use Rattle.faults.specs.declared.fault.Refusal.{Refusal}
use Rattle.sets.specs.declared.Sort.{Sort}
use Rattle.sets.specs.declared.Sort.TheVariants.{Members, Others}
use Rattle.sets.specs.Sets.{next_of, previous_of, rank_of, select_of}
use Rattle.plain.specs.Decoding.{set_of}
use Rattle.plain.specs.Filling.{bits_of}
use Rattle.plain.specs.Opening.{opening}
use Rattle.list.specs.Opening as listing
use Rattle.list.specs.Decoding as in_list
use Rattle.list.specs.Filling as fill_list
use Rattle.zombit.specs.Opening as blocking
use Rattle.zombit.specs.Blocks as in_blocks
use Rattle.zombit.specs.Filling as fill_blocks
use Rattle.pioneer.specs.Opening as running
use Rattle.pioneer.specs.Runs as in_runs
use Rattle.pioneer.specs.Filling as fill_runs
use Rattle.round.specs.declared.state.Report.{Report}
use Rattle.round.specs.declared.state.Taken.{Taken}
use Rattle.round.specs.Calls.{go_to, nearest_at}
use Rattle.round.specs.Machine.{end, next_from}
use Rattle.round.specs.Sheets.{Page, sheet_from}
use Rattle.round.specs.States.{fresh, after_next, after_go}
use Rattle.listing.specs.Listings.{Listing, play}
use Rattle.worked.specs.Garage.{set_with, free, charging, sides}

-- a question, its arguments and its answer
pub data Case : Type 0 where
  -- numbers and parts of a form, and the set that they open as, and that is filled as them
  opens : ℕ → List ℕ → List Bool → Case
  opens_list : ℕ → List ℕ → List Bool → Case
  opens_blocks : ℕ → ℕ → List ℕ → List ℕ → List ℕ → List Bool → Case
  opens_runs : ℕ → ℕ → List ℕ → List ℕ → List Bool → Case
  ranks : List Bool → Sort → ℕ → ℕ → Case
  selects : List Bool → Sort → ℕ → Option ℕ → Case
  next : List Bool → Sort → ℕ → Option ℕ → Case
  previous : List Bool → Sort → ℕ → Option ℕ → Case
  nearest : List Bool → List Bool → ℕ → Option ℕ → Case
  lists : List Bool → List Bool → Listing → Case
  -- go from a state to a place: the number of the refusal, 0 for none, and the state then
  goes : List Bool → List Bool → Report → ℕ → ℕ → Report → Case
  -- next from a state: what it gives, and the state then
  takes : List Bool → List Bool → Report → Taken → Report → Case
  sheet : List Bool → List Bool → ℕ → Page → Case

abbrev number : Result (Unit {0}) Refusal → ℕ
number (Ok _) = 0
number (Err e) = refusal_number e

abbrev row : Option ℕ → ℕ → Taken
row bay stretches = record { bay = bay; stretches = stretches }

abbrev pub Right : Case → Type 0
Right (opens u bytes s) = (opening u bytes ≡ Ok tt) × (set_of u bytes ≡ s) × (bits_of s ≡ bytes)
Right (opens_list u ns s) = (listing.opening u ns ≡ Ok tt) × (in_list.set_of u ns ≡ s) × (fill_list.numbers_of s ≡ ns)
Right (opens_blocks u β us os ms s) =
    (blocking.opening u β us os ms ≡ Ok tt) × (in_blocks.set_of u β us os ms ≡ s)
    × (fill_blocks.parts_of β s ≡ us ∷ os ∷ ms ∷ [])
Right (opens_runs u n ps ls s) =
    (running.opening u n ps ls ≡ Ok tt) × (in_runs.set_of u n ps ls ≡ s)
    × (fill_runs.count_of s ≡ n) × (fill_runs.parts_of s ≡ ps ∷ ls ∷ [])
Right (ranks s k i n) = rank_of s k i ≡ n
Right (selects s k n r) = select_of s k n ≡ r
Right (next s k i r) = next_of s k i ≡ r
Right (previous s k i r) = previous_of s k i ≡ r
Right (nearest f c p r) = nearest_at f (end f c) p ≡ Ok r
Right (lists f c r) = play f c (suc (end f c)) fresh ≡ r
Right (goes f c s q n t) = let r = go_to (end f c) s.place q in (number r ≡ n) × (after_go r s q ≡ t)
Right (takes f c s t u) =
    let w = next_from f c s.place in
    (w.taken ≡ t) × (after_next f c s ≡ u)
Right (sheet f c k r) = sheet_from f c k 1 ≡ r

abbrev at : ℕ → ℕ → ℕ → Report
at handed stretches place = record { handed = handed; stretches = stretches; place = place }

abbrev pub cases : List Case
cases =
    opens 16 (135 ∷ 7 ∷ []) free
    ∷ opens 16 (18 ∷ 35 ∷ []) charging
    ∷ opens_list 16 (1 ∷ 2 ∷ 3 ∷ 8 ∷ 9 ∷ 10 ∷ 11 ∷ []) free
    ∷ opens_blocks 16 2 (213 ∷ []) (59 ∷ []) (25 ∷ []) free
    ∷ opens_runs 16 7 (129 ∷ 0 ∷ []) (68 ∷ []) free
    ∷ opens_blocks 1 2 (0 ∷ []) (1 ∷ []) (1 ∷ []) (set_with 1 (1 ∷ []))
    ∷ opens_runs 3 0 (0 ∷ []) [] (set_with 3 [])
    ∷ opens_blocks 3 2 (3 ∷ []) (0 ∷ []) [] (set_with 3 [])
    ∷ ranks free Members 8 4
    ∷ ranks free Others 8 4
    ∷ selects free Members 5 (Some 9)
    ∷ selects free Others 5 (Some 12)
    ∷ selects free Members 8 None
    ∷ next free Members 4 (Some 8)
    ∷ next free Members 12 None
    ∷ next free Others 8 (Some 12)
    ∷ previous free Members 7 (Some 3)
    ∷ previous free Members 3 (Some 3)
    ∷ nearest free charging 6 (Some 8)
    ∷ nearest free charging 5 (Some 3)
    ∷ nearest sides sides 6 (Some 4)
    ∷ lists free charging (record {
      rows = row (Some 2) 2 ∷ row (Some 9) 4 ∷ row (Some 10) 1 ∷ row None 2 ∷ [];
      report = at 3 9 17;
    })
    ∷ goes free charging fresh 9 0 (at 0 0 9)
    ∷ takes free charging (at 0 0 9) (row (Some 9) 1) (at 1 1 10)
    ∷ goes free charging (at 1 1 10) 9 10 (at 1 1 10)
    ∷ sheet free charging 2 (record { bays = 2 ∷ 9 ∷ []; place = 10; stretches = 6 })
    ∷ []
