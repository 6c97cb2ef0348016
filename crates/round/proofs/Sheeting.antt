-- A sheet, one bay at a time.
use Rattle.std.proofs.Common.{◌≡◌, ℕ, suc, ◌+◌, ◌-◌, ◌<◌, ◌≤◌, Bool, List, [], ◌∷◌, ◌++◌, length, take, drop, set, Some, None, Option, sym, refl, ap, ◌∙◌, append_assoc, take-append-drop, arith, length-append, length-drop, length-set, length-take}
use borrow.Rule.Slice.PartMut.{mid_of, put_mid}
use Rattle.std.proofs.lemmas.List.{append-nil}
use Rattle.strides.proofs.Going.{over_on}
use Rattle.round.specs.declared.state.Report.{Report}
use Rattle.round.specs.Machine.{next_from}
use Rattle.round.specs.Sheets.{Page, paged, sheet_from}
use Rattle.sets.specs.Lists.{over}
use Rattle.sets.proofs.Memory.{front_more, kept_more, is_over}
use Rattle.round.specs.Strides.{onto, Going}
use Rattle.round.specs.States.{handed_by, after_next, after_sheet}

module _ (f c : List Bool) where
  pub sheet_full : (p : ℕ) → sheet_from f c 0 p ≡ record { bays = []; place = p; stretches = 0 }
  unfolding sheet_from
  sheet_full p = refl

  pub sheet_step : (k p : ℕ) → sheet_from f c (suc k) p ≡ paged (next_from f c p).taken.bay (next_from f c p) (sheet_from f c k (next_from f c p).place)
  unfolding sheet_from
  sheet_step k p = refl

  sheet_none : (k p : ℕ) → (next_from f c p).taken.bay ≡ None → sheet_from f c (suc k) p ≡ record { bays = []; place = (next_from f c p).place; stretches = (next_from f c p).taken.stretches }
  sheet_none k p e = sheet_step k p ∙ ap (λ (o : Option ℕ). paged o (next_from f c p) (sheet_from f c k (next_from f c p).place)) e

  sheet_some : (k p q : ℕ) → (next_from f c p).taken.bay ≡ Some q → sheet_from f c (suc k) p ≡ onto (q ∷ []) (next_from f c p).taken.stretches (sheet_from f c k (next_from f c p).place)
  sheet_some k p q e = sheet_step k p ∙ ap (λ (o : Option ℕ). paged o (next_from f c p) (sheet_from f c k (next_from f c p).place)) e

-- the sheet is done
pub record Done (f c : List Bool) (s₀ : Report) (out₀ : List ℕ) (s : Report) (out : List ℕ) : Type 0 where
  pub counts : s.handed - s₀.handed ≡ length (sheet_from f c (length out₀) s₀.place).bays
  pub takes : s.stretches - s₀.stretches ≡ (sheet_from f c (length out₀) s₀.place).stretches
  pub writes : out ≡ over (sheet_from f c (length out₀) s₀.place).bays out₀
  pub state : s ≡ after_sheet s₀ (sheet_from f c (length out₀) s₀.place)

module _ (f c : List Bool) (s₀ : Report) (out₀ : List ℕ) where
  onto_onto : (ws : List ℕ) (q t u : ℕ) (r : Page) → onto ws t (onto (q ∷ []) u r) ≡ onto (ws ++ (q ∷ [])) (t + u) r
  onto_onto ws q t u r =
      let sum : t + (u + r.stretches) ≡ t + u + r.stretches = omega arith in
      λ i. record { bays = sym (append_assoc ws (q ∷ []) r.bays) i; place = r.place; stretches = sum i }

  pub going_more : (n : ℕ) (s s' : Report) (out : List ℕ) (q : ℕ) → n < length out₀ → Some q ≡ (next_from f c s.place).taken.bay → s' ≡ after_next f c s → Going f c s₀ out₀ n s out → Going f c s₀ out₀ (n + 1) s' (set out n q)
  going_more n s s' out q h e g i =
      let w = next_from f c s.place in
      let fits : n < length out = omega (arith, i.size) in
      let less : length out₀ - n ≡ suc (length out₀ - (n + 1)) = omega arith in
      let low = i.grown in
      let place' : s'.place ≡ w.place = ap (λ (x : Report). x.place) g in
      let stretches' : s'.stretches ≡ s.stretches + w.taken.stretches = ap (λ (x : Report). x.stretches) g in
      let handed' : s'.handed ≡ s.handed + 1 = ap (λ (x : Report). x.handed) g ∙ ap (λ (o : Option ℕ). s.handed + handed_by o) (sym e) in
      let diff : s.stretches - s₀.stretches + w.taken.stretches ≡ s'.stretches - s₀.stretches = omega arith in
      let front = front_more n out q fits in
      record {
        size = length-set out n q ∙ i.size;
        within = omega arith;
        wrote = i.wrote
            ∙ ap (λ (k : ℕ). onto (take n out) (s.stretches - s₀.stretches) (sheet_from f c k s.place)) less
            ∙ ap (onto (take n out) (s.stretches - s₀.stretches)) (sheet_some f c (length out₀ - (n + 1)) s.place q (sym e))
            ∙ onto_onto (take n out) q (s.stretches - s₀.stretches) w.taken.stretches (sheet_from f c (length out₀ - (n + 1)) w.place)
            ∙ (λ j. onto (front j) (diff j) (sheet_from f c (length out₀ - (n + 1)) (sym place' j)));
        kept = kept_more n out out₀ q i.kept;
        many = omega (arith, i.many);
        grown = omega arith;
      }

  -- the bays of the whole sheet are those written
  done : (n t : ℕ) (s : Report) (out : List ℕ) → n ≤ length out₀ → length out ≡ length out₀ → drop n out ≡ drop n out₀ → s.handed ≡ s₀.handed + n → s₀.stretches + t ≡ s.stretches → sheet_from f c (length out₀) s₀.place ≡ record { bays = take n out ++ []; place = s.place; stretches = t } → Done f c s₀ out₀ s out
  done n t s out h size kept many grown all =
      let page = sheet_from f c (length out₀) s₀.place in
      let bays : page.bays ≡ take n out = ap (λ (r : Page). r.bays) all ∙ append-nil (take n out) in
      let place' : page.place ≡ s.place = ap (λ (r : Page). r.place) all in
      let took : page.stretches ≡ t = ap (λ (r : Page). r.stretches) all in
      let written = is_over n page.bays out out₀ (omega arith) bays kept in
      let long = written.0 in
      let handed' : s.handed ≡ s₀.handed + length page.bays = omega arith in
      let stretches' : s.stretches ≡ s₀.stretches + page.stretches = omega arith in
      record {
        counts = omega arith;
        takes = omega arith;
        writes = written.1;
        state = λ j. record { handed = handed' j; stretches = stretches' j; place = sym place' j };
      }

  pub done_none : (n : ℕ) (s s' : Report) (out : List ℕ) → n < length out₀ → None ≡ (next_from f c s.place).taken.bay → s' ≡ after_next f c s → Going f c s₀ out₀ n s out → Done f c s₀ out₀ s' out
  done_none n s s' out h e g i =
      let w = next_from f c s.place in
      let low = i.grown in
      let less : length out₀ - n ≡ suc (length out₀ - (n + 1)) = omega arith in
      let place' : s'.place ≡ w.place = ap (λ (x : Report). x.place) g in
      let stretches' : s'.stretches ≡ s.stretches + w.taken.stretches = ap (λ (x : Report). x.stretches) g in
      let handed' : s'.handed ≡ s.handed + 0 = ap (λ (x : Report). x.handed) g ∙ ap (λ (o : Option ℕ). s.handed + handed_by o) (sym e) in
      done n (s.stretches - s₀.stretches + w.taken.stretches) s' out (omega arith) i.size i.kept (omega (arith, i.many)) (omega arith)
      (i.wrote
      ∙ ap (λ (k : ℕ). onto (take n out) (s.stretches - s₀.stretches) (sheet_from f c k s.place)) less
      ∙ ap (onto (take n out) (s.stretches - s₀.stretches)) (sheet_none f c (length out₀ - (n + 1)) s.place (sym e))
      ∙ (λ j. record { bays = take n out ++ []; place = sym place' j; stretches = s.stretches - s₀.stretches + w.taken.stretches }))

  pub done_full : (n : ℕ) (s : Report) (out : List ℕ) → n ≡ length out₀ → Going f c s₀ out₀ n s out → Done f c s₀ out₀ s out
  done_full n s out h i =
      let low = i.grown in
      let less : length out₀ - n ≡ 0 = omega arith in
      let t = s.stretches - s₀.stretches in
      let sum : t + 0 ≡ t = omega arith in
      done n t s out (omega arith) i.size i.kept i.many (omega arith)
      (i.wrote ∙ ap (λ (k : ℕ). onto (take n out) t (sheet_from f c k s.place)) less ∙ ap (onto (take n out) t) (sheet_full f c s.place)
      ∙ (λ j. record { bays = take n out ++ []; place = s.place; stretches = sum j }))

  -- n bays were written, and then the rest of the sheet behind them
  pub done_rest : (n k : ℕ) (s s' : Report) (out new : List ℕ) → Going f c s₀ out₀ n s out → k ≡ length out - n
      → s' ≡ after_sheet s (sheet_from f c (length (mid_of n k out)) s.place)
      → new ≡ over (sheet_from f c (length (mid_of n k out)) s.place).bays (mid_of n k out)
      → Done f c s₀ out₀ s' (put_mid n k out new)
  done_rest n k s s' out new g e state wrote =
      let long : length (mid_of n k out) ≡ length out₀ - n = length-take k (drop n out) ∙ omega (arith, length-drop n out, e, g.size) in
      let page = sheet_from f c (length (mid_of n k out)) s.place in
      let t = s.stretches - s₀.stretches in
      let all : sheet_from f c (length out₀) s₀.place ≡ onto (take n out) t page = g.wrote ∙ ap (λ (m : ℕ). onto (take n out) t (sheet_from f c m s.place)) (sym long) in
      let front : length (take n out) ≡ n = length-take n out ∙ omega (arith, g.within, g.size) in
      let before : out ≡ over (take n out) out₀ = sym (take-append-drop n out) ∙ (λ j. take n out ++ g.kept j) ∙ ap (λ (m : ℕ). take n out ++ drop m out₀) (sym front) in
      let whole : put_mid n k out new ≡ over (take n out ++ page.bays) out₀ =
      ap (λ (m : ℕ). put_mid m k out new) (sym front)
      ∙ over_on (take n out) page.bays out₀ out new k before (omega (arith, e, front)) (wrote ∙ ap (λ (m : ℕ). over page.bays (mid_of m k out)) (sym front)) in
      let size : length (take n out ++ page.bays) ≡ n + length page.bays = length-append (take n out) page.bays ∙ omega (arith, front) in
      let handed' : s'.handed ≡ s.handed + length page.bays = ap (λ (x : Report). x.handed) state in
      let stretches' : s'.stretches ≡ s.stretches + page.stretches = ap (λ (x : Report). x.stretches) state in
      let place' : s'.place ≡ page.place = ap (λ (x : Report). x.place) state in
      let bays : (sheet_from f c (length out₀) s₀.place).bays ≡ take n out ++ page.bays = ap (λ (x : Page). x.bays) all in
      let took : (sheet_from f c (length out₀) s₀.place).stretches ≡ t + page.stretches = ap (λ (x : Page). x.stretches) all in
      let there : (sheet_from f c (length out₀) s₀.place).place ≡ page.place = ap (λ (x : Page). x.place) all in
      let handed'' : s'.handed ≡ s₀.handed + length (sheet_from f c (length out₀) s₀.place).bays = omega (arith, handed', g.many, size, ap length bays) in
      let stretches'' : s'.stretches ≡ s₀.stretches + (sheet_from f c (length out₀) s₀.place).stretches = omega (arith, stretches', took, g.grown) in
      record {
        counts = omega (arith, handed'');
        takes = omega (arith, stretches'');
        writes = whole ∙ ap (λ (xs : List ℕ). over xs out₀) (sym bays);
        state = λ j. record { handed = handed'' j; stretches = stretches'' j; place = (place' ∙ sym there) j };
      }
