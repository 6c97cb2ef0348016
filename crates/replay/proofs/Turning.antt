-- Each call is a way, and so is a list of calls: it hands out the common bays that were passed, by the fewest stretches.
use Rattle.std.proofs.Common.{◌≡◌, ℕ, suc, ◌+◌, ◌≤◌, Bool, leb, List, [], ◌∷◌, ◌++◌, length, take, drop, map, Some, None, Option, Result, sym, refl, ap, ◌∙◌, subst, arith, length-append}
use Rattle.std.proofs.Math.Seq.{take-append_seam}
use Rattle.std.proofs.lemmas.List.Sums.{sum_by-cons}
use Rattle.std.proofs.lemmas.Bool.{cond_both, leb-true}
use Rattle.faults.specs.declared.fault.Refusal.{Refusal}
use Rattle.sets.specs.Lists.{over}
use Rattle.round.specs.declared.state.Report.{Report}
use Rattle.round.specs.Calls.{go_to}
use Rattle.round.specs.Machine.{end, next_from}
use Rattle.round.specs.Sheets.{sheet_from}
use Rattle.round.specs.States.{fresh, handed_by, bay_of, after_go}
use Rattle.round.specs.Stretches.{Fewest}
use Rattle.round.proofs.Ways.{Way, made_none, way_over, way_join, way_listed, way_fewest}
use Rattle.round.proofs.Taking.{next_made, sheet_made}
use Rattle.round.proofs.Steps.{steps_up}
use Rattle.replay.specs.declared.calls.Call.{Call}
use Rattle.replay.specs.declared.calls.Call.TheVariants as call
use Rattle.replay.specs.Plays.{Outcome, Turn, Played, step, room, play, run, answers_of}
use Rattle.replay.specs.Whole.{gives, hop, skips, tells, stretches_told, bays_of, stepped_over, Passed, Kept}

one_handed : (o : Option ℕ) → handed_by o ≡ length (bay_of o)
one_handed None = refl
one_handed (Some b) = refl

module _ (f c : List Bool) where
  -- what one call does
  pub record Turned (s : Report) (x : Call) (window : List ℕ) (t : Outcome) : Type 0 where
    pub way : Way f c s.place t.state.place (gives t.answer t.window) (skips x t.answer s.place) (tells t.answer)
    pub handed : t.state.handed ≡ s.handed + length (gives t.answer t.window)
    pub stretches : t.state.stretches ≡ s.stretches + tells t.answer

  -- a call that only asks
  asks : (s : Report) → Way f c s.place s.place [] [] 0 × (s.handed ≡ s.handed + 0) × (s.stretches ≡ s.stretches + 0)
  asks s = (made_none f c s.place, omega arith, omega arith)

  abbrev Gone : Report → ℕ → Result (Unit {0}) Refusal → Type 0
  Gone s q r =
      Way f c s.place (after_go r s q).place [] (hop r s.place q) 0 × ((after_go r s q).handed ≡ s.handed + 0)
      × ((after_go r s q).stretches ≡ s.stretches + 0)

  goes : (s : Report) (q : ℕ) → Gone s q (go_to (end f c) s.place q)
  goes s q =
      cond_both (leb 1 q) _ _ (Gone s q)
      (λ some. cond_both (leb q (suc (end f c))) _ _ (Gone s q)
      (λ within. cond_both (leb s.place q) _ _ (Gone s q)
      (λ ahead. (way_over f c s.place q (leb-true s.place q ahead) (leb-true q (suc (end f c)) within), omega arith, omega arith))
      (λ _. asks s))
      (λ _. asks s))
      (λ _. asks s)

  pub turned : (s : Report) (x : Call) (window : List ℕ) → 1 ≤ s.place → Turned s x window (step f c s x window)
  turned s (call.Count a b) window l = let w = asks s in record { way = w.0; handed = w.1; stretches = w.2 }
  turned s (call.Nearest p) window l = let w = asks s in record { way = w.0; handed = w.1; stretches = w.2 }
  turned s (call.Sign n) window l = let w = asks s in record { way = w.0; handed = w.1; stretches = w.2 }
  turned s (call.Pick k) window l = let w = asks s in record { way = w.0; handed = w.1; stretches = w.2 }
  turned s (call.Go q) window l = let w = goes s q in record { way = w.0; handed = w.1; stretches = w.2 }
  turned s call.Next window l =
      let w = next_from f c s.place in
      record {
        way = next_made f c s.place l;
        handed = ap (λ (n : ℕ). s.handed + n) (one_handed w.taken.bay);
        stretches = refl;
      }
  turned s (call.Sheet k) window l =
      let page = sheet_from f c (length window) s.place in
      let front : page.bays ≡ take (length page.bays) (over page.bays window) = sym (take-append_seam page.bays (drop (length page.bays) window)) in
      record {
        way = subst (λ (bays : List ℕ). Way f c s.place page.place bays [] page.stretches) front (sheet_made f c (length window) s.place l);
        handed = ap (λ (bays : List ℕ). s.handed + length bays) front;
        stretches = refl;
      }

  -- what a list of calls does
  record Done (s : Report) (calls : List Call) (r : Played) : Type 0 where
    pub way : Way f c s.place r.report.place (bays_of r.turns) (stepped_over r.turns) (stretches_told (answers_of r.turns))
    pub handed : r.report.handed ≡ s.handed + length (bays_of r.turns)
    pub stretches : r.report.stretches ≡ s.stretches + stretches_told (answers_of r.turns)
    pub asked : map (λ (t : Turn). t.call) r.turns ≡ calls

  done : (calls : List Call) (s : Report) (memory : List ℕ) → 1 ≤ s.place → Done s calls (play f c s calls memory)
  unfolding play
  done [] s memory l = record { way = made_none f c s.place; handed = omega arith; stretches = omega arith; asked = refl }
  done (x ∷ calls) s memory l =
      let t = step f c s x (take (room x) memory) in
      let here = turned s x (take (room x) memory) l in
      let bays : List ℕ = gives t.answer t.window in
      let up = steps_up suc s.place t.state.place bays here.way.rises in
      let on = done calls t.state (drop (room x) memory) (omega arith) in
      let r = play f c t.state calls (drop (room x) memory) in
      let sum : tells t.answer + stretches_told (answers_of r.turns) ≡ stretches_told (t.answer ∷ answers_of r.turns) = sym (sum_by-cons tells t.answer (answers_of r.turns)) in
      record {
        way = subst (Way f c s.place r.report.place (bays ++ bays_of r.turns) (skips x t.answer s.place ++ stepped_over r.turns)) sum
            (way_join f c _ _ _ _ _ _ _ _ _ here.way on.way);
        handed = on.handed ∙ omega (arith, here.handed, length-append bays (bays_of r.turns));
        stretches = on.stretches ∙ omega (arith, here.stretches, sum);
        asked = ap (λ (xs : List Call). x ∷ xs) on.asked;
      }

  pub kept : (calls : List Call) (memory : List ℕ) → Kept f c calls memory (run f c calls memory)
  kept calls memory =
      let r = play f c fresh calls memory in
      let whole = done calls fresh memory (omega arith) in
      let sum : stretches_told (answers_of r.turns) ≡ r.report.stretches = omega (arith, whole.stretches) in
      record {
        asked = whole.asked;
        answered = refl;
        wrote = (r.rest, refl);
        place = (steps_up suc 1 r.report.place (bays_of r.turns) whole.way.rises, whole.way.top (omega arith));
        bays = way_listed f c 1 r.report.place _ _ _ (Passed (stepped_over r.turns) r.report.place) (λ j h. h) (λ j h. h) whole.way;
        handed = omega (arith, whole.handed);
        stretches = sym sum;
        fewest = subst (Fewest f c (Passed (stepped_over r.turns) r.report.place)) sum
            (way_fewest f c 1 r.report.place _ _ _ (Passed (stepped_over r.turns) r.report.place) (λ j h. h) (λ j h. h) whole.way);
      }
