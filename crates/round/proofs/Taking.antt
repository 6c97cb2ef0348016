-- A next and a sheet are ways, so that they hand out the first common bays and take the fewest stretches.
use Rattle.std.proofs.Common.{◌≡◌, ℕ, zero, suc, ◌+◌, ◌-◌, ◌≤◌, Bool, List, [], ◌∷◌, length, take, drop, Some, None, Option, sym, refl, ap, ◌∙◌, subst, ⊎_elim, arith}
use lib.Seq.{take-append_seam}
use Rattle.std.proofs.lemmas.Bool.{cases_Bool, cases_lt}
use Rattle.round.specs.declared.state.Report.{Report}
use Rattle.round.specs.declared.walk.Walked.{Walked}
use Rattle.round.specs.Machine.{end, common, larger, walk, next_from}
use Rattle.round.specs.Stretches.{Between, Fewest}
use Rattle.round.specs.Handed.{HandedIs, Stops, SheetIs, behind}
use Rattle.round.specs.Sheets.{Page, paged, sheet_from}
use Rattle.round.specs.States.{bay_of}
use Rattle.round.proofs.Walks.{larger_past, walk_end, walk_here, walk_on}
use Rattle.round.proofs.Handing.{next_handed}
use Rattle.round.proofs.Steps.{steps_up}
use Rattle.round.proofs.Ways.{Made, made_none, made_here, made_on, made_join, made_listed, made_fewest}
use Rattle.round.proofs.Sheeting.{sheet_full, sheet_step, Done}

module _ (f c : List Bool) where
  abbrev WalkedTo : ℕ → ℕ → Walked → Type 0
  WalkedTo p n r = (k : ℕ) × (Made f c p r.place (bay_of r.taken.bay) k × (r.taken.stretches ≡ n + k))

  walk_made : (m p n : ℕ) → 1 ≤ p → WalkedTo p n (walk f c m p n)
  unfolding walk
  walk_made zero p n l = (0, (made_none f c p, omega arith))
  walk_made (suc m) p n l =
      ⊎_elim
      (λ beyond. subst (WalkedTo p n) (sym (walk_end f c (suc m) p n beyond)) (0, (made_none f c p, omega arith)))
      (λ within. ⊎_elim
      (λ e. subst (WalkedTo p n) (sym (walk_here f c (suc m) p n (omega arith) within e)) (1, (made_here f c p l within e, refl)))
      (λ e.
      let past = larger_past f c p within e in
      let on = walk_made m (larger f c p) (n + 1) (omega arith) in
      let r = walk f c m (larger f c p) (n + 1) in
      subst (WalkedTo p n) (sym (walk_on f c m p n within e))
      (1 + on.0, (made_join f c p (larger f c p) r.place [] (bay_of r.taken.bay) 1 on.0 (made_on f c p l within e) on.1.0, omega (arith, on.1.1))))
      (cases_Bool (common f c p)))
      (cases_lt (end f c) p)

  pub next_made : (p : ℕ) → 1 ≤ p → Made f c p (next_from f c p).place (bay_of (next_from f c p).taken.bay) (next_from f c p).taken.stretches
  unfolding next_from
  next_made p l =
      let r = walk f c (suc (end f c) - p) p 0 in
      let w = walk_made (suc (end f c) - p) p 0 l in
      let same : w.0 ≡ r.taken.stretches = omega (arith, w.1.1) in
      subst (Made f c p r.place (bay_of r.taken.bay)) same w.1.0

  -- of a value that is equal to the walk's
  pub fewest_at : (p : ℕ) (r : Walked) → 1 ≤ p → r ≡ next_from f c p → Fewest f c (Between p r.place) r.taken.stretches
  fewest_at p r l e = subst (λ (x : Walked). Fewest f c (Between p x.place) x.taken.stretches) (sym e) (made_fewest f c p _ _ _ (next_made p l))

  -- ---- a sheet

  abbrev pub PageTo : ℕ → Page → Type 0
  PageTo p r = Made f c p r.place r.bays r.stretches

  page_made : (p : ℕ) (w : Walked) (r : Page) (o : Option ℕ) → Made f c p w.place (bay_of o) w.taken.stretches → PageTo w.place r → PageTo p (paged o w r)
  page_made p w r None a b = a
  page_made p w r (Some q) a b = made_join f c p w.place r.place (q ∷ []) r.bays w.taken.stretches r.stretches a b

  pub sheet_made : (k p : ℕ) → 1 ≤ p → PageTo p (sheet_from f c k p)
  sheet_made zero p l = subst (PageTo p) (sym (sheet_full f c p)) (made_none f c p)
  sheet_made (suc k) p l =
      let w = next_from f c p in
      let a = next_made p l in
      let up = steps_up suc p w.place (bay_of w.taken.bay) a.rises in
      subst (PageTo p) (sym (sheet_step f c k p)) (page_made p w (sheet_from f c k w.place) w.taken.bay a (sheet_made k w.place (omega arith)))

  abbrev pub PageStops : ℕ → ℕ → Page → Type 0
  PageStops p k r = Stops f c p k r.bays r.place

  page_stops : (p k : ℕ) (w : Walked) (r : Page) (o : Option ℕ) → HandedIs f c p o w.place → PageStops w.place k r → PageStops p (suc k) (paged o w r)
  page_stops p k w r None is s = record { fits = omega arith; full = λ e. absurd (omega arith); short = λ l. is.1 }
  page_stops p k w r (Some q) is s = record {
    fits = omega (arith, s.fits);
    full = λ e. s.full (omega arith) ∙ ap (λ (x : ℕ). behind x r.bays) is.4;
    short = λ l. s.short (omega arith) ∙ omega (arith, is.0, is.1, is.4);
  }

  pub sheet_stops : (k p : ℕ) → PageStops p k (sheet_from f c k p)
  sheet_stops zero p = subst (PageStops p 0) (sym (sheet_full f c p)) (record { fits = omega arith; full = λ e. refl; short = λ l. absurd (omega arith) })
  sheet_stops (suc k) p =
      let w = next_from f c p in
      subst (PageStops p (suc k)) (sym (sheet_step f c k p)) (page_stops p k w (sheet_from f c k w.place) w.taken.bay (next_handed f c p) (sheet_stops k w.place))

  sheet_is : (k p : ℕ) → 1 ≤ p → SheetIs f c p k (sheet_from f c k p).bays (sheet_from f c k p).place
  sheet_is k p l = record { listed = made_listed f c p _ _ _ (sheet_made k p l); stops = sheet_stops k p }

  -- of a sheet that is done, from the state s₀ and the memory out₀ to s and out
  module _ (s₀ : Report) (out₀ : List ℕ) (s : Report) (out : List ℕ) (some : 1 ≤ s₀.place) (d : Done f c s₀ out₀ s out) where
    page : Page
    page = sheet_from f c (length out₀) s₀.place

    bays_are : page.bays ≡ take (s.handed - s₀.handed) out
    unfolding page
    bays_are =
        sym (take-append_seam page.bays (drop (length page.bays) out₀))
        ∙ (λ i. take (sym d.counts i) (sym d.writes i))

    place_is : page.place ≡ s.place
    unfolding page
    place_is = sym (ap (λ (x : Report). x.place) d.state)

    pub done_is : SheetIs f c s₀.place (length out₀) (take (s.handed - s₀.handed) out) s.place
    unfolding page
    done_is = subst (λ (e : ℕ). SheetIs f c s₀.place (length out₀) (take (s.handed - s₀.handed) out) e) place_is
        (subst (λ (bays : List ℕ). SheetIs f c s₀.place (length out₀) bays page.place) bays_are (sheet_is (length out₀) s₀.place some))

    pub done_fewest : Fewest f c (Between s₀.place s.place) (s.stretches - s₀.stretches)
    unfolding page
    done_fewest = subst (λ (e : ℕ). Fewest f c (Between s₀.place e) (s.stretches - s₀.stretches)) place_is
        (subst (Fewest f c (Between s₀.place page.place)) (sym d.takes) (made_fewest f c s₀.place _ _ _ (sheet_made (length out₀) s₀.place some)))
