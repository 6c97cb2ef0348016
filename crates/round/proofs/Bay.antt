-- One bay more of a sheet: whether a stretch begins there, whether it is handed out, and where the stretch under way ends.
use Rattle.std.proofs.Common.{◌≡◌, ℕ, zero, suc, ◌+◌, ◌-◌, ◌<◌, ◌≤◌, min, max, Bool, true, false, not, cond, ◌&&◌, ◌||◌, List, [], ◌∷◌, length, Some, None, Option, refl, sym, ap, ◌∙◌, ⊎_elim, arith}
use Rattle.std.proofs.lemmas.Bool.{cond_both, cases_lt, both_ways, and_left, and_right}
use Rattle.sets.specs.Sets.{is_member, next_of}
use Rattle.sets.specs.Laws.{NextIs}
use Rattle.sets.specs.declared.Sort.TheVariants.{Members}
use Rattle.sets.proofs.Bays.{is_beyond}
use Rattle.sets.proofs.Lawful.{next_smallest}
use Rattle.sets.proofs.Only.{next_here, next_by}
use Rattle.strides.specs.declared.standing.Stance.{Stance}
use Rattle.round.specs.declared.walk.Walked.{Walked}
use Rattle.round.specs.Machine.{end, stop, common, larger, next_from}
use Rattle.round.specs.Sheets.{Page, paged, sheet_from}
use Rattle.round.specs.Strides.{ends_at, onto, Sound}
use Rattle.round.proofs.Walks.{stop_end, larger_past, larger_end, rest_here, rest_on, rest_start, longer, rest_more}
use Rattle.round.proofs.Sheeting.{sheet_step}

-- the stance behind a bay that is free as a says and in the class as b says
abbrev pub next_stance : Stance → Bool → Bool → Stance
next_stance s a b = record { fresh = a && b; in_free = not b && (a || s.in_free); in_class = not a && (b || s.in_class) }

-- whether a stretch begins there
abbrev pub begun : Stance → Bool → Bool → Bool
begun s a b = s.fresh || ((a && b) || ((a && s.in_class) || (b && s.in_free)))

-- ---- stances

abbrev stance : Bool → Bool → Bool → Stance
stance fresh in_free in_class = record { fresh = fresh; in_free = in_free; in_class = in_class }

-- one of four
sound_cases : (P : Stance → Type 0) → P (stance true false false) → P (stance false false false) → P (stance false true false) → P (stance false false true) → (s : Stance) → Sound s → P s
sound_cases P new none free class s sound = go s.fresh s.in_free s.in_class sound
  where
    go : (fresh in_free in_class : Bool) → Sound (stance fresh in_free in_class) → P (stance fresh in_free in_class)
    go true true in_class h = absurd (both_ways true (h.0 refl).0 refl)
    go true false true h = absurd (both_ways true (h.0 refl).1 refl)
    go true false false h = new
    go false true true h = absurd (both_ways true (h.1 refl) refl)
    go false true false h = free
    go false false true h = class
    go false false false h = none

no : false ≡ true → {A : Type 0} → A
no e = absurd (both_ways true (sym e) refl)

pub sound_next : (s : Stance) (a b : Bool) → Sound s → Sound (next_stance s a b)
sound_next s true true h = (λ e. (refl, refl), λ e. no e)
sound_next s true false h = (λ e. no e, λ e. refl)
sound_next s false true h = (λ e. no e, λ e. no e)
sound_next s false false h = (λ e. no e, h.1)

-- ---- the next member, read as one past the end where there is none

next_on : (s : List Bool) (i : ℕ) → is_member s i ≡ false → next_of s Members (suc i) ≡ next_of s Members i
next_on s i e = next_by s Members i (next_of s Members (suc i)) (down (next_of s Members (suc i)) (next_smallest s Members (suc i)))
  where
    at : (j : ℕ) → i ≤ j → (suc i ≤ j → is_member s j ≡ false) → is_member s j ≡ false
    at j l h = ⊎_elim h (λ more. let same : j ≡ i = omega arith in ap (is_member s) same ∙ e) (cases_lt i j)

    down : (r : Option ℕ) → NextIs s Members (suc i) r → NextIs s Members i r
    down None law = λ j l. at j l (law j)
    down (Some q) law = (omega (arith, law.0), law.1, λ j l h. at j l (λ more. law.2 j more h))

module _ (s : List Bool) (w i : ℕ) where
  abbrev ahead : ℕ → ℕ
  ahead j = stop w (next_of s Members j)

  ahead_here : i ≤ w → is_member s i ≡ true → ahead i ≡ i
  ahead_here l e = ap (stop w) (next_here s Members i e) ∙ omega arith

  ahead_on : is_member s i ≡ false → ahead i ≡ ahead (suc i)
  ahead_on e = ap (stop w) (sym (next_on s i e))

  ahead_past : i ≤ w → i < ahead (suc i)
  ahead_past l = past (next_of s Members (suc i)) (next_smallest s Members (suc i))
    where
      past : (r : Option ℕ) → NextIs s Members (suc i) r → i < stop w r
      past None law = omega arith
      past (Some q) law = omega (arith, law.0)

  ahead_end : w < i → ahead i ≡ suc w
  ahead_end l = beyond (next_of s Members i) (next_smallest s Members i)
    where
      beyond : (r : Option ℕ) → NextIs s Members i r → stop w r ≡ suc w
      beyond None law = refl
      beyond (Some q) law = omega (arith, law.0)

-- ---- the stretch under way

module _ (f c : List Bool) where
  larger_is : (i : ℕ) → larger f c i ≡ max (stop (end f c) (next_of f Members i)) (stop (end f c) (next_of c Members i))
  unfolding larger
  larger_is i = refl

  pub ends_top : (s : Stance) (i : ℕ) → ends_at f c s i ≤ suc (end f c)
  unfolding ends_at
  ends_top s i =
      let w = end f c in
      cond_both s.fresh _ _ (λ m. m ≤ suc w) (λ e. omega arith) (λ e. cond_both s.in_free _ _ (λ m. m ≤ suc w) (λ e. stop_end w (next_of c Members i)) (λ e.
      cond_both s.in_class _ _ (λ m. m ≤ suc w) (λ e. stop_end w (next_of f Members i)) (λ e. larger_end f c i)))

  -- from a bay of which the two Bools say whether it is handed out and whether a stretch begins, to where the stretch after it ends
  abbrev pub Moves : ℕ → ℕ → ℕ → Bool → Bool → Type 0
  Moves i m m' true true = (m ≡ i) × (m' ≡ suc i)
  Moves i m m' true false = ⊥
  Moves i m m' false true = (m ≡ i) × (larger f c i ≡ m')
  Moves i m m' false false = m ≡ m'

  module _ (i : ℕ) (within : i ≤ end f c) where
    abbrev pub MovesFrom : Bool → Bool → Stance → Type 0
    MovesFrom a b s = Moves i (ends_at f c s i) (ends_at f c (next_stance s a b) (suc i)) (a && b) (begun s a b)

    pub moves_by : (a b : Bool) → is_member f i ≡ a → is_member c i ≡ b → (s : Stance) → Sound s → MovesFrom a b s
    unfolding ends_at
    moves_by true true ef ec =
        let w = end f c in
        let hf = ahead_here f w i within ef in
        let hc = ahead_here c w i within ec in
        let new : min (suc i) (suc w) ≡ suc i = omega arith in
        let start : min i (suc w) ≡ i = omega arith in
        let both : larger f c i ≡ i = larger_is i ∙ omega (arith, hf, hc) in
        sound_cases (MovesFrom true true) (start, new) (both, new) (hc, new) (hf, new)
    moves_by true false ef ec =
        let w = end f c in
        let hf = ahead_here f w i within ef in
        let oc = ahead_on c w i ec in
        let start : min i (suc w) ≡ i = omega arith in
        let on : larger f c i ≡ ahead c w i (suc i) = larger_is i ∙ omega (arith, hf, oc, ahead_past c w i within) in
        sound_cases (MovesFrom true false) (start, on) on oc (hf, on)
    moves_by false true ef ec =
        let w = end f c in
        let of = ahead_on f w i ef in
        let hc = ahead_here c w i within ec in
        let start : min i (suc w) ≡ i = omega arith in
        let on : larger f c i ≡ ahead f w i (suc i) = larger_is i ∙ omega (arith, hc, of, ahead_past f w i within) in
        sound_cases (MovesFrom false true) (start, on) on (hc, on) of
    moves_by false false ef ec =
        let w = end f c in
        let of = ahead_on f w i ef in
        let oc = ahead_on c w i ec in
        let start : min i (suc w) ≡ i = omega arith in
        let on : larger f c i ≡ larger f c (suc i) = larger_is i ∙ omega (arith, of, oc) ∙ sym (larger_is (suc i)) in
        sound_cases (MovesFrom false false) (start, on) on oc of

  -- ---- the sheet

  take_here : (k i : ℕ) → i ≤ end f c → common f c i ≡ true → sheet_from f c (suc k) i ≡ onto (i ∷ []) 1 (sheet_from f c k (suc i))
  take_here k i l e =
      let behind : i + 1 ≡ suc i = omega arith in
      let w : next_from f c i ≡ record { taken = record { bay = Some i; stretches = 1 }; place = suc i } =
      sym (rest_start f c i) ∙ rest_here f c i 0 l e ∙ (λ j. record { taken = record { bay = Some i; stretches = 1 }; place = behind j }) in
      sheet_step f c k i ∙ ap (λ (x : Walked). paged x.taken.bay x (sheet_from f c k x.place)) w

  paged_more : (w : Walked) (r : Page) (o : Option ℕ) → paged o (longer w) r ≡ onto [] 1 (paged o w r)
  paged_more w r None =
      let sum : w.taken.stretches + 1 ≡ 1 + w.taken.stretches = omega arith in
      λ j. record { bays = []; place = w.place; stretches = sum j }
  paged_more w r (Some b) =
      let sum : w.taken.stretches + 1 + r.stretches ≡ 1 + (w.taken.stretches + r.stretches) = omega arith in
      λ j. record { bays = b ∷ r.bays; place = r.place; stretches = sum j }

  take_on : (k i : ℕ) → i ≤ end f c → common f c i ≡ false → sheet_from f c (suc k) i ≡ onto [] 1 (sheet_from f c (suc k) (larger f c i))
  take_on k i l e =
      let m = larger f c i in
      let w : next_from f c i ≡ longer (next_from f c m) =
      sym (rest_start f c i) ∙ rest_on f c i 0 l e ∙ rest_more f c m 0 ∙ ap longer (rest_start f c m) in
      sheet_step f c k i
      ∙ ap (λ (x : Walked). paged x.taken.bay x (sheet_from f c k x.place)) w
      ∙ paged_more (next_from f c m) (sheet_from f c k (next_from f c m).place) (next_from f c m).taken.bay
      ∙ ap (onto [] 1) (sym (sheet_step f c k m))

  -- a sheet with room for r bays goes on from m as from m'
  pub record Taken (r i m m' : ℕ) (handed start : Bool) : Type 0 where
    pub sheet : sheet_from f c r m ≡ onto (cond handed (i ∷ []) []) (cond start 1 0) (sheet_from f c (r - cond handed 1 0) m')
    pub far : cond start 1 0 + m ≤ m'
    pub few : cond handed 1 0 ≤ cond start 1 0

  still : (r i m m' : ℕ) → m ≡ m' → Taken r i m m' false false
  still r i m m' on =
      let less : r ≡ r - 0 = omega arith in
      let page = sheet_from f c (r - 0) m' in
      let none : page.stretches ≡ 0 + page.stretches = omega arith in
      record {
        sheet = (λ j. sheet_from f c (less j) (on j)) ∙ (λ j. record { bays = page.bays; place = page.place; stretches = none j });
        far = omega (arith, on);
        few = omega arith;
      }

  pub taken_by : (r i m m' : ℕ) (handed start : Bool) → 1 ≤ r → i ≤ end f c → common f c i ≡ handed → Moves i m m' handed start → Taken r i m m' handed start
  taken_by zero i m m' handed start l h e on = absurd (omega arith)
  taken_by (suc k) i m m' true true l h e on =
      let less : k ≡ suc k - 1 = omega arith in
      record {
        sheet = ap (sheet_from f c (suc k)) on.0 ∙ take_here k i h e ∙ (λ j. onto (i ∷ []) 1 (sheet_from f c (less j) (sym on.1 j)));
        far = omega (arith, on.0, on.1);
        few = omega arith;
      }
  taken_by (suc k) i m m' true false l h e on = absurd on
  taken_by (suc k) i m m' false true l h e on =
      let less : suc k ≡ suc k - 0 = omega arith in
      record {
        sheet = ap (sheet_from f c (suc k)) on.0 ∙ take_on k i h e ∙ (λ j. onto [] 1 (sheet_from f c (less j) (on.1 j)));
        far = omega (arith, on.0, on.1, larger_past f c i h e);
        few = omega arith;
      }
  taken_by (suc k) i m m' false false l h e on = still (suc k) i m m' on

  -- ---- past the end

  ends_past : (s : Stance) (i : ℕ) → end f c < i → ends_at f c s i ≡ suc (end f c)
  unfolding ends_at
  ends_past s i l =
      let w = end f c in
      let in_free = ahead_end f w i l in
      let in_class = ahead_end c w i l in
      cond_both s.fresh _ _ (λ m. m ≡ suc w) (λ e. omega arith) (λ e. cond_both s.in_free _ _ (λ m. m ≡ suc w) (λ e. in_class) (λ e.
      cond_both s.in_class _ _ (λ m. m ≡ suc w) (λ e. in_free) (λ e. larger_is i ∙ omega (arith, in_free, in_class))))

  pub taken_past : (r i : ℕ) (s s' : Stance) → end f c < i → Taken r i (ends_at f c s i) (ends_at f c s' (suc i)) false false
  taken_past r i s s' l = still r i _ _ (ends_past s i l ∙ sym (ends_past s' (suc i) (omega arith)))

  pub common_past : (i : ℕ) → end f c < i → common f c i ≡ false
  unfolding common
  common_past i l =
      ⊎_elim
      (λ past. and_left _ _ (is_beyond f Members i past))
      (λ within. and_right _ _ (is_beyond c Members i (omega (arith, l))))
      (cases_lt (length f) i)
