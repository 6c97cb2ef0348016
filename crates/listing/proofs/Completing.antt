-- A whole round hands out all common bays, by the fewest stretches.
use Rattle.std.proofs.Common.{◌≡◌, ℕ, zero, suc, ◌+◌, ◌<◌, ◌≤◌, Bool, true, List, [], ◌∷◌, length, Some, None, Option, sym, refl, ◌∙◌, subst, arith}
use Rattle.std.proofs.lemmas.Bool.{and_parts}
use Rattle.sets.specs.Sets.{is_member}
use Rattle.sets.specs.declared.Sort.TheVariants.{Members}
use Rattle.sets.proofs.Bays.{is_bay}
use Rattle.round.specs.declared.state.Report.{Report}
use Rattle.round.specs.declared.state.Taken.{Taken}
use Rattle.round.specs.Handed.{HandedIs}
use Rattle.round.specs.Machine.{end, common, next_from}
use Rattle.sets.specs.Lists.{over}
use Rattle.round.specs.States.{fresh, handed_by, bay_of, after_next}
use Rattle.round.specs.Stretches.{Between, Fewest}
use Rattle.round.proofs.Handing.{next_handed}
use Rattle.round.proofs.Ways.{Made, made_join, made_listed, made_fewest}
use Rattle.round.proofs.Taking.{next_made}
use Rattle.listing.specs.Listings.{Listing, before, onward, play, bays_of, listed_of, written, Complete, CompleteIn}
use Rattle.listing.specs.declared.list.Listed.{Listed}
use Rattle.listing.proofs.Playing.{play_step, written_whole}

module _ (f c : List Bool) where
  -- the place behind a bay is above the one before, and not past the end
  on_by : (p place : ℕ) (o : Option ℕ) (q : ℕ) → o ≡ Some q → HandedIs f c p o place → (p < place) × (place ≤ suc (end f c))
  on_by p place None q e is = absurd (let z : ◌≡◌ {A = ℕ} 0 1 = cc in omega arith)
  on_by p place (Some b) q e is = (omega (arith, is.0, is.4), omega (arith, is.1, is.4))

  -- a round that stood at s was walked to its end
  record Played (s : Report) (r : Listing) : Type 0 where
    pub stretches : ℕ
    pub way : Made f c s.place r.report.place (bays_of r.rows) stretches
    pub taken : r.report.stretches ≡ s.stretches + stretches
    pub handed : r.report.handed ≡ s.handed + length (bays_of r.rows)
    pub ends : r.report.place ≡ suc (end f c)

  -- one next, which gave the bay o
  abbrev row : Report → Option ℕ → Taken
  row s o = record { bay = o; stretches = (next_from f c s.place).taken.stretches }

  abbrev Stepped : Report → Option ℕ → Type 0
  Stepped s o =
      Made f c s.place (next_from f c s.place).place (bay_of o) (next_from f c s.place).taken.stretches
      × ((after_next f c s).handed ≡ s.handed + handed_by o)
      × HandedIs f c s.place o (next_from f c s.place).place

  played_step : (s : Report) (r : Listing) (o : Option ℕ) → s.place ≤ suc (end f c) → Stepped s o → ((q : ℕ) → o ≡ Some q → Played (after_next f c s) r) → Played s (before (row s o) (onward o (after_next f c s) r))
  played_step s r None top one on = record {
    stretches = (next_from f c s.place).taken.stretches;
    way = one.0;
    taken = refl;
    handed = one.1;
    ends = one.2.1 ∙ omega arith;
  }
  played_step s r (Some q) top one on =
      let more = on q refl in
      let w = next_from f c s.place in
      record {
        stretches = w.taken.stretches + more.stretches;
        way = made_join f c s.place w.place r.report.place (q ∷ []) (bays_of r.rows) w.taken.stretches more.stretches one.0 more.way;
        taken = omega (arith, more.taken);
        handed = omega (arith, more.handed, one.1);
        ends = more.ends;
      }

  play_played : (m : ℕ) (s : Report) → 1 ≤ s.place → s.place ≤ suc (end f c) → suc (suc (end f c)) ≤ m + s.place → Played s (play f c m s)
  play_played zero s l top h = absurd (omega arith)
  play_played (suc m) s l top h =
      subst (Played s) (sym (play_step f c m s))
      (played_step s (play f c m (after_next f c s)) (next_from f c s.place).taken.bay top
      (next_made f c s.place l, refl, next_handed f c s.place)
      (λ q e. let on = on_by s.place _ _ q e (next_handed f c s.place) in play_played m (after_next f c s) (omega (arith, on.0)) on.1 (omega (arith, on.0))))

  -- a common bay lies within the round
  common_bay : (j : ℕ) → common f c j ≡ true → Between 1 (suc (end f c)) j
  unfolding common
  common_bay j e =
      let both = and_parts (is_member f j) (is_member c j) e in
      let in-free = is_bay f Members j both.0 in
      let in-class = is_bay c Members j both.1 in
      (in-free.0, omega (arith, in-free.1, in-class.1))

  complete : (m : ℕ) (r : Listing) → suc (end f c) ≤ m → r ≡ play f c m fresh → Complete f c r
  complete m r room e =
      let p = subst (Played fresh) (sym e) (play_played m fresh (omega arith) (omega arith) (omega arith)) in
      let list = made_listed f c 1 r.report.place (bays_of r.rows) p.stretches p.way in
      let same : p.stretches ≡ r.report.stretches = omega (arith, p.taken) in
      record {
        bays = record {
          rising = list.rising;
          all = λ j k. let in-round = common_bay j k in list.all j ((in-round.0, omega (arith, in-round.1, p.ends)), k);
          only = λ j m. (list.only j m).1;
        };
        handed = p.handed ∙ omega arith;
        fewest = subst (λ (n : ℕ). Fewest f c (Between 1 (suc (end f c))) n) same
            (subst (λ (place : ℕ). Fewest f c (Between 1 place) p.stretches) p.ends (made_fewest f c 1 r.report.place (bays_of r.rows) p.stretches p.way));
        place = p.ends;
      }

  -- where that is told and written
  pub complete_in : (m : ℕ) (told : Listed) (memory new : List Taken) → told ≡ listed_of (play f c m fresh) → new ≡ over (play f c m fresh).rows memory → CompleteIn m f c (written told new)
  complete_in m told memory new e w room = complete m _ room ((λ i. written (e i) (w i)) ∙ written_whole (play f c m fresh) memory)
