-- A listing, one next at a time.
use Rattle.std.proofs.Common.{◌≡◌, ℕ, suc, ◌+◌, ◌-◌, ◌<◌, ◌≤◌, Bool, true, false, List, [], ◌∷◌, ◌++◌, length, take, drop, set, is_some, Some, None, Option, sym, refl, ap, ◌∙◌, append_assoc, arith, length-set}
use lib.Seq.{take-append_seam}
use Rattle.std.proofs.lemmas.List.{append-nil}
use Rattle.round.specs.declared.state.Report.{Report}
use Rattle.round.specs.declared.state.Taken.{Taken}
use Rattle.round.specs.Machine.{next_from}
use Rattle.sets.specs.Lists.{over}
use Rattle.round.specs.States.{after_next}
use Rattle.sets.proofs.Memory.{front_more, kept_more, is_over}
use Rattle.listing.specs.Listings.{Listing, before, onward, play, listed_of, written}

-- rows that were taken before those of r
abbrev glued : List Taken → Listing → Listing
glued rows r = record { rows = rows ++ r.rows; report = r.report }

-- what is told of a listing and its rows at the front of the memory are the whole listing
pub written_whole : (r : Listing) (memory : List Taken) → written (listed_of r) (over r.rows memory) ≡ r
written_whole r memory = λ i. record { rows = take-append_seam r.rows (drop (length r.rows) memory) i; report = r.report }

onward_some : (o : Option ℕ) (s : Report) (r : Listing) → is_some o ≡ true → onward o s r ≡ r
onward_some None s r e = absurd (let z : ◌≡◌ {A = ℕ} 0 1 = cc in omega arith)
onward_some (Some q) s r e = refl

onward_none : (o : Option ℕ) (s : Report) (r : Listing) → is_some o ≡ false → onward o s r ≡ record { rows = []; report = s }
onward_none None s r e = refl
onward_none (Some q) s r e = absurd (let z : ◌≡◌ {A = ℕ} 0 1 = cc in omega arith)

module _ (f c : List Bool) where
  abbrev pub takes : Report → Taken
  takes s = (next_from f c s.place).taken

  pub play_step : (m : ℕ) (s : Report) → play f c (suc m) s ≡ before (takes s) (onward (next_from f c s.place).taken.bay (after_next f c s) (play f c m (after_next f c s)))
  unfolding play
  play_step m s = refl

  play_full : (s : Report) → play f c 0 s ≡ record { rows = []; report = s }
  unfolding play
  play_full s = refl

  -- n rows are written, and the round stands at s
  pub record Going (s₀ : Report) (rows₀ : List Taken) (n : ℕ) (s : Report) (rows : List Taken) : Type 0 where
    pub size : length rows ≡ length rows₀
    pub wrote : play f c (length rows₀) s₀ ≡ glued (take n rows) (play f c (length rows₀ - n) s)
    pub kept : drop n rows ≡ drop n rows₀

  -- all rows are written
  pub record Done (s₀ : Report) (rows₀ : List Taken) (n : ℕ) (s : Report) (rows : List Taken) : Type 0 where
    pub counts : n ≡ length (play f c (length rows₀) s₀).rows
    pub writes : rows ≡ over (play f c (length rows₀) s₀).rows rows₀
    pub state : s ≡ (play f c (length rows₀) s₀).report

  module _ (s₀ : Report) (rows₀ : List Taken) where
    done : (n : ℕ) (s : Report) (rows : List Taken) → n ≤ length rows → drop n rows ≡ drop n rows₀ → play f c (length rows₀) s₀ ≡ record { rows = take n rows; report = s } → Done s₀ rows₀ n s rows
    done n s rows h kept all =
        let whole = play f c (length rows₀) s₀ in
        let are : whole.rows ≡ take n rows = ap (λ (r : Listing). r.rows) all in
        let written = is_over n whole.rows rows rows₀ h are kept in
        record {
          counts = sym written.0;
          writes = written.1;
          state = sym (ap (λ (r : Listing). r.report) all);
        }

    -- what the whole is after one more next
    next_row : (n : ℕ) (s : Report) (rows : List Taken) → n < length rows₀ → Going s₀ rows₀ n s rows → play f c (length rows₀) s₀ ≡ glued (take (n + 1) (set rows n (takes s))) (onward (next_from f c s.place).taken.bay (after_next f c s) (play f c (length rows₀ - (n + 1)) (after_next f c s)))
    next_row n s rows h i =
        let less : length rows₀ - n ≡ suc (length rows₀ - (n + 1)) = omega arith in
        let r = onward (next_from f c s.place).taken.bay (after_next f c s) (play f c (length rows₀ - (n + 1)) (after_next f c s)) in
        let fits : n < length rows = omega (arith, i.size) in
        i.wrote
        ∙ ap (λ (k : ℕ). glued (take n rows) (play f c k s)) less
        ∙ ap (glued (take n rows)) (play_step (length rows₀ - (n + 1)) s)
        ∙ (λ j. record { rows = sym (append_assoc (take n rows) (takes s ∷ []) r.rows) j; report = r.report })
        ∙ ap (λ (front : List Taken). glued front r) (front_more n rows (takes s) fits)

    -- a next gave t and left the state s'
    module _ (n : ℕ) (s s' : Report) (rows : List Taken) (t : Taken) (room : n < length rows₀) (step : t ≡ takes s) (state : s' ≡ after_next f c s) (i : Going s₀ rows₀ n s rows) where
      gave : (b : Bool) → is_some t.bay ≡ b → is_some (next_from f c s.place).taken.bay ≡ b
      gave b e = sym (ap (λ (x : Taken). is_some x.bay) step) ∙ e

      pub going_more : is_some t.bay ≡ true → Going s₀ rows₀ (n + 1) s' (set rows n t)
      going_more e = record {
        size = length-set rows n t ∙ i.size;
        wrote = next_row n s rows room i ∙ ap (glued (take (n + 1) (set rows n (takes s)))) (onward_some _ _ _ (gave true e))
            ∙ (λ j. glued (take (n + 1) (set rows n (sym step j))) (play f c (length rows₀ - (n + 1)) (sym state j)));
        kept = kept_more n rows rows₀ t i.kept;
      }

      pub done_none : is_some t.bay ≡ false → Done s₀ rows₀ (n + 1) s' (set rows n t)
      done_none e =
          done (n + 1) s' (set rows n t) (omega (arith, length-set rows n t, i.size)) (kept_more n rows rows₀ t i.kept)
          (next_row n s rows room i ∙ ap (glued (take (n + 1) (set rows n (takes s)))) (onward_none _ _ _ (gave false e))
          ∙ (λ j. record { rows = append-nil (take (n + 1) (set rows n (sym step j))) j; report = sym state j }))

    pub done_full : (n : ℕ) (s : Report) (rows : List Taken) → n ≡ length rows₀ → Going s₀ rows₀ n s rows → Done s₀ rows₀ n s rows
    done_full n s rows h i =
        let less : length rows₀ - n ≡ 0 = omega arith in
        done n s rows (omega (arith, i.size)) i.kept
        (i.wrote ∙ ap (λ (k : ℕ). glued (take n rows) (play f c k s)) less ∙ ap (glued (take n rows)) (play_full s)
        ∙ (λ j. record { rows = append-nil (take n rows) j; report = s }))
