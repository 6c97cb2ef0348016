-- A way from one place to another: the common bays that it hands out, the rows that it steps over, and the stretches that it takes.
-- Ways join, and a way takes the fewest stretches: where its stretches begin are marks, of which no lawful stretch has two.
use Rattle.std.proofs.Common.{◌≡◌, ℕ, suc, ◌+◌, ◌<◌, ◌≤◌, Bool, true, false, List, [], ◌∷◌, ◌++◌, length, refl, ap, ◌∙◌, subst, inl, inr, ⊎_elim, arith, length-append}
use Rattle.std.proofs.lemmas.Bool.{cases_lt, both_ways}
use Rattle.round.specs.Machine.{end, common, larger}
use Rattle.round.proofs.Walks.{larger_past, larger_end}
use Rattle.round.proofs.Greedy.{reach, reach_lawful, reach_here, reach_on, longest}
use Rattle.round.proofs.Handing.{passes_none}
use Rattle.sets.specs.Lists.{Each, Among, ListOf}
use Rattle.round.specs.Stretches.{Row, Between, Has, In, Clear, Apart, Lawful, Stretch, Fewest}
use Rattle.sets.proofs.Joins.{any_split, any_left, any_right, each_join}
use Rattle.round.proofs.Steps.{apart_join, Steps, steps_from, steps_join, steps_up, steps_in, steps_rising}

pub record Way (f c : List Bool) (p e : ℕ) (bays : List ℕ) (over : List Row) (n : ℕ) : Type 0 where
  pub top : p ≤ suc (end f c) → e ≤ suc (end f c)
  pub rises : Steps suc p e bays
  pub shared : (j : ℕ) → Among bays j → (common f c j ≡ true) × (In over j → ⊥)
  pub all : (j : ℕ) → Clear p e over j → common f c j ≡ true → Among bays j
  pub stepped : (j : ℕ) → In over j → Between p e j
  pub rows : List Row
  pub rows_many : length rows ≡ n
  pub lawful : Each (Stretch f c) rows
  pub apart : Apart rows
  pub covers : (j : ℕ) → Clear p e over j → In rows j
  pub inside : (j : ℕ) → In rows j → Clear p e over j
  pub marks : List ℕ
  pub marks_many : length marks ≡ n
  pub spread : Steps (reach f c) p e marks
  pub missed : (x : ℕ) → Among marks x → In over x → ⊥

-- a way that steps over nothing
abbrev pub Made : List Bool → List Bool → ℕ → ℕ → List ℕ → ℕ → Type 0
Made f c p e bays n = Way f c p e bays [] n

module _ (f c : List Bool) where
  pub made_none : (p : ℕ) → Made f c p p [] 0
  made_none p = record {
    top = λ h. h;
    rises = omega arith;
    shared = λ j h. absurd h;
    all = λ j h e. absurd (omega (arith, h.0.0, h.0.1));
    stepped = λ j h. absurd h;
    rows = [];
    rows_many = refl;
    lawful = tt;
    apart = tt;
    covers = λ j h. absurd (omega (arith, h.0.0, h.0.1));
    inside = λ j h. absurd h;
    marks = [];
    marks_many = refl;
    spread = omega arith;
    missed = λ x h. absurd h;
  }

  -- stepping over the bays before q
  pub way_over : (p q : ℕ) → p ≤ q → q ≤ suc (end f c) → Way f c p q [] (record { first = p; past = q } ∷ []) 0
  way_over p q l t = record {
    top = λ h. t;
    rises = l;
    shared = λ j h. absurd h;
    all = λ j h e. absurd (h.1 (inl h.0));
    stepped = λ j h. ⊎_elim (λ a. a) (λ b. absurd b) h;
    rows = [];
    rows_many = refl;
    lawful = tt;
    apart = tt;
    covers = λ j h. absurd (h.1 (inl h.0));
    inside = λ j h. absurd h;
    marks = [];
    marks_many = refl;
    spread = l;
    missed = λ x h. absurd h;
  }

  -- one stretch: a common bay,
  pub made_here : (p : ℕ) → 1 ≤ p → p ≤ end f c → common f c p ≡ true → Made f c p (p + 1) (p ∷ []) 1
  made_here p l h e =
      let r = reach_here f c p e in
      record {
        top = λ t. omega arith;
        rises = (omega arith, omega arith, omega arith);
        shared = λ j m. ⊎_elim (λ same. (ap (common f c) same ∙ e, λ o. o)) (λ b. absurd b) m;
        all = λ j k _. inl (omega (arith, k.0.0, k.0.1));
        stepped = λ j o. absurd o;
        rows = record { first = p; past = p + 1 } ∷ [];
        rows_many = refl;
        lawful = ((l, omega arith, subst (Lawful f c p) r (reach_lawful f c p h)), tt);
        apart = (λ j a b. b, tt);
        covers = λ j k. inl k.0;
        inside = λ j m. (⊎_elim (λ a. a) (λ b. absurd b) m, λ o. o);
        marks = p ∷ [];
        marks_many = refl;
        spread = (omega arith, omega arith, omega arith);
        missed = λ x m o. o;
      }

  -- or bays of which none is common
  pub made_on : (p : ℕ) → 1 ≤ p → p ≤ end f c → common f c p ≡ false → Made f c p (larger f c p) [] 1
  made_on p l h e =
      let r = reach_on f c p e in
      let past = larger_past f c p h e in
      let top = larger_end f c p in
      record {
        top = λ t. top;
        rises = omega arith;
        shared = λ j m. absurd m;
        all = λ j k is. absurd (both_ways _ (passes_none f c p j h e k.0.0 k.0.1) is);
        stepped = λ j o. absurd o;
        rows = record { first = p; past = larger f c p } ∷ [];
        rows_many = refl;
        lawful = ((l, top, subst (Lawful f c p) r (reach_lawful f c p h)), tt);
        apart = (λ j a b. b, tt);
        covers = λ j k. inl k.0;
        inside = λ j m. (⊎_elim (λ a. a) (λ b. absurd b) m, λ o. o);
        marks = p ∷ [];
        marks_many = refl;
        spread = (omega arith, omega arith, omega arith);
        missed = λ x m o. o;
      }

  -- one way after the other
  module _ (p q e : ℕ) (bays bays' : List ℕ) (over over' : List Row) (n n' : ℕ) (a : Way f c p q bays over n) (b : Way f c q e bays' over' n') where
    -- a bay that the first way did not step over is not stepped over,
    clear_left : (j : ℕ) → Clear p q over j → Clear p e (over ++ over') j
    clear_left j h = let up = steps_up suc q e bays' b.rises in (
      (h.0.0, omega (arith, h.0.1)),
      λ o. ⊎_elim h.1 (λ there. omega (arith, h.0.1, (b.stepped j there).0)) (any_split (Has j) over over' o),
    )

    -- nor is one that the second did not
    clear_right : (j : ℕ) → Clear q e over' j → Clear p e (over ++ over') j
    clear_right j h = let up = steps_up suc p q bays a.rises in (
      (omega (arith, h.0.0), h.0.1),
      λ o. ⊎_elim (λ here. omega (arith, h.0.0, (a.stepped j here).1)) h.1 (any_split (Has j) over over' o),
    )

    left_clear : (j : ℕ) → Clear p e (over ++ over') j → j < q → Clear p q over j
    left_clear j h l = ((h.0.0, l), λ o. h.1 (any_left (Has j) over over' o))

    right_clear : (j : ℕ) → Clear p e (over ++ over') j → q ≤ j → Clear q e over' j
    right_clear j h l = ((l, h.0.1), λ o. h.1 (any_right (Has j) over over' o))

    pub way_join : Way f c p e (bays ++ bays') (over ++ over') (n + n')
    way_join =
        let ua : p ≤ q = steps_up suc p q bays a.rises in
        let ub : q ≤ e = steps_up suc q e bays' b.rises in
        record {
          top = λ h. b.top (a.top h);
          rises = steps_join suc p q e bays bays' a.rises b.rises;
          shared = λ j m. ⊎_elim
              (λ x. let s = a.shared j x in (s.0, (clear_left j (steps_in suc p q bays j a.rises x, s.1)).1))
              (λ x. let s = b.shared j x in (s.0, (clear_right j (steps_in suc q e bays' j b.rises x, s.1)).1))
              (any_split (λ y. j ≡ y) bays bays' m);
          all = λ j h k. ⊎_elim
              (λ before. any_left (λ y. j ≡ y) bays bays' (a.all j (left_clear j h before) k))
              (λ after. any_right (λ y. j ≡ y) bays bays' (b.all j (right_clear j h after) k))
              (cases_lt j q);
          stepped = λ j o. ⊎_elim
              (λ x. let s = a.stepped j x in (s.0, omega (arith, s.1)))
              (λ x. let s = b.stepped j x in (omega (arith, s.0), s.1))
              (any_split (Has j) over over' o);
          rows = a.rows ++ b.rows;
          rows_many = length-append a.rows b.rows ∙ (λ i. a.rows_many i + b.rows_many i);
          lawful = each_join (Stretch f c) a.rows b.rows a.lawful b.lawful;
          apart = apart_join a.rows b.rows a.apart b.apart (λ j x y. omega (arith, (a.inside j x).0.1, (b.inside j y).0.0));
          covers = λ j h. ⊎_elim
              (λ before. any_left (Has j) a.rows b.rows (a.covers j (left_clear j h before)))
              (λ after. any_right (Has j) a.rows b.rows (b.covers j (right_clear j h after)))
              (cases_lt j q);
          inside = λ j m. ⊎_elim (λ x. clear_left j (a.inside j x)) (λ x. clear_right j (b.inside j x)) (any_split (Has j) a.rows b.rows m);
          marks = a.marks ++ b.marks;
          marks_many = length-append a.marks b.marks ∙ (λ i. a.marks_many i + b.marks_many i);
          spread = steps_join (reach f c) p q e a.marks b.marks a.spread b.spread;
          missed = λ x m. ⊎_elim
              (λ y. (clear_left x (steps_in (reach f c) p q a.marks x a.spread y, a.missed x y)).1)
              (λ y. (clear_right x (steps_in (reach f c) q e b.marks x b.spread y, b.missed x y)).1)
              (any_split (λ y. x ≡ y) a.marks b.marks m);
        }

  pub made_join : (p q e : ℕ) (bays bays' : List ℕ) (n n' : ℕ) → Made f c p q bays n → Made f c q e bays' n' → Made f c p e (bays ++ bays') (n + n')
  made_join p q e bays bays' n n' a b = way_join p q e bays bays' [] [] n n' a b

  -- the rows without one that has x: what lies at or past the reach of x is in them still
  abbrev Less : List Row → ℕ → List Row → Type 0
  Less rows x fewer = (suc (length fewer) ≡ length rows) × Each (Stretch f c) fewer × ((y : ℕ) → reach f c x ≤ y → In rows y → In fewer y)

  take_out : (rows : List Row) (x : ℕ) → Each (Stretch f c) rows → In rows x → (fewer : List Row) × Less rows x fewer
  take_out [] x ok m = absurd m
  take_out (r ∷ rows) x ok (inl here) = (
    rows,
    (
      refl,
      ok.1,
      λ y l m. ⊎_elim
          (λ both. absurd (omega (arith, longest f c r.first x r.past ok.0.2 here.0 here.1 ok.0.1, both.1)))
          (λ other. other) m,
    ),
  )
  take_out (r ∷ rows) x ok (inr there) =
      let on = take_out rows x ok.1 there in
      (r ∷ on.0, (ap suc on.1.0, (ok.0, on.1.1), λ y l m. ⊎_elim (λ a. inl a) (λ b. inr (on.1.2 y l b)) m))

  -- no lawful stretch has two of the marks, so there are as many stretches as marks, or more
  as_many : (marks : List ℕ) (rows : List Row) (p e : ℕ) → Steps (reach f c) p e marks → Each (Stretch f c) rows → ((x : ℕ) → Among marks x → In rows x) → length marks ≤ length rows
  as_many [] rows p e s ok h = omega arith
  as_many (x ∷ marks) rows p e s ok h =
      let out = take_out rows x ok (h x (inl refl)) in
      let less : length marks ≤ length out.0 = as_many marks out.0 (reach f c x) e s.2 out.1.1 (λ y m. out.1.2 y (steps_in (reach f c) (reach f c x) e marks y s.2 m).0 (h y (inr m))) in
      omega (arith, out.1.0)

  -- the bays that are clear on the way, as they are called elsewhere
  module _ (p e : ℕ) (bays : List ℕ) (over : List Row) (n : ℕ) (passed : ℕ → Type 0) (from : (j : ℕ) → Clear p e over j → passed j) (to : (j : ℕ) → passed j → Clear p e over j) (m : Way f c p e bays over n) where
    pub way_listed : ListOf (λ j. passed j × (common f c j ≡ true)) bays
    way_listed = record {
      rising = steps_rising 0 e bays (steps_from suc 0 p e bays (omega arith) m.rises);
      all = λ j h. m.all j (to j h.0) h.1;
      only = λ j b. let s = m.shared j b in (from j (steps_in suc p e bays j m.rises b, s.1), s.0);
    }

    pub way_fewest : Fewest f c passed n
    way_fewest = record {
      some = (m.rows, (record { lawful = m.lawful; apart = m.apart; all = λ j h. m.covers j (to j h); only = λ j h. from j (m.inside j h) }, m.rows_many));
      least = λ rows cut.
          let many : length m.marks ≤ length rows =
          as_many m.marks rows p e m.spread cut.lawful (λ x k. cut.all x (from x (steps_in (reach f c) p e m.marks x m.spread k, m.missed x k))) in
          omega (arith, m.marks_many);
    }

  pub made_listed : (p e : ℕ) (bays : List ℕ) (n : ℕ) → Made f c p e bays n → ListOf (λ j. Between p e j × (common f c j ≡ true)) bays
  made_listed p e bays n m = way_listed p e bays [] n (Between p e) (λ j h. h.0) (λ j h. (h, λ o. o)) m

  pub made_fewest : (p e : ℕ) (bays : List ℕ) (n : ℕ) → Made f c p e bays n → Fewest f c (Between p e) n
  made_fewest p e bays n m = way_fewest p e bays [] n (Between p e) (λ j h. h.0) (λ j h. (h, λ o. o)) m
