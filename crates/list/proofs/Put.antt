-- Numbers put as the ones of a memory, one after the other.
use Rattle.std.proofs.Common.{◌≡◌, ℕ, zero, suc, ◌+◌, ◌-◌, ◌<◌, Bool, true, false, ◌||◌, eqb, List, [], ◌∷◌, length, get_or, take, drop, sym, refl, ap, ◌∙◌, ⊎_elim, arith, length-take}
use Rattle.std.proofs.lemmas.Bool.{cases_Bool, cases_lt, cases_eq, eq-eqb, ne_eqb, both_ways}
use Rattle.std.proofs.lemmas.List.{get_or-take, get_or-drop, length-drop}
use Rattle.sets.specs.Packing.{pack}
use Rattle.bits.proofs.Packing.{pack_same}
use Rattle.list.specs.Decoding.{is_among}
use Rattle.list.specs.Places.{Climbs, Cut}
use Rattle.list.proofs.Members.{among_at, place_of, not_among}
use Rattle.list.proofs.Places.{grows}

pub none_among : (i : ℕ) → is_among [] i ≡ false
unfolding is_among
none_among i = refl

either : (x y z : Bool) → (x || (y || z)) ≡ (y || (x || z))
either true true z = refl
either true false z = refl
either false y z = refl

-- one number more
pub among_more : (ns : List ℕ) (k i : ℕ) → k < length ns → is_among (take (suc k) ns) i ≡ (eqb i (get_or ns k 0) || is_among (take k ns) i)
unfolding is_among
among_more [] k i l = absurd (omega arith)
among_more (n ∷ ns) zero i l = refl
among_more (n ∷ ns) (suc k) i l =
    ap (λ b. eqb i n || b) (among_more ns k i (omega arith)) ∙ either (eqb i n) (eqb i (get_or ns k 0)) (is_among (take k ns) i)

-- whether a number is in a list is whether it is at one of its places
among_same : (ns ms : List ℕ) (i : ℕ) → ((j : ℕ) → j < length ns → get_or ns j 0 ≡ i → is_among ms i ≡ true)
    → ((j : ℕ) → j < length ms → get_or ms j 0 ≡ i → is_among ns i ≡ true) → is_among ns i ≡ is_among ms i
among_same ns ms i to back =
    ⊎_elim
    (λ yes. let at = place_of ns i yes in yes ∙ sym (to at.0 at.1.0 at.1.1))
    (λ no. no ∙ sym (not_among ms i (λ j l e. both_ways _ no (back j l e))))
    (cases_Bool (is_among ns i))

module _ (ns : List ℕ) (up : Climbs ns) where
  -- the numbers before place k are those that are below the number there
  pub among_front : (k i : ℕ) → (k < length ns → i < get_or ns k 0) → is_among (take k ns) i ≡ is_among ns i
  among_front k i low =
      among_same (take k ns) ns i
      (λ j l e. ap (is_among ns) (sym (sym (get_or-take k ns j 0 (omega (arith, length-take k ns))) ∙ e)) ∙ among_at ns j (omega (arith, length-take k ns)))
      (λ j l e. ⊎_elim
      (λ inside.
      ap (is_among (take k ns)) (sym (get_or-take k ns j 0 inside ∙ e)) ∙ among_at (take k ns) j (omega (arith, length-take k ns)))
      (λ past. absurd (omega (arith, low (omega arith), grows ns up k j past l)))
      (cases_lt j k))

  -- and those from a cut on are the ones above it
  pub among_behind : (before k i : ℕ) → Cut ns before k → before < i → is_among (drop k ns) i ≡ is_among ns i
  among_behind before k i cut above =
      among_same (drop k ns) ns i
      (λ j l e. ap (is_among ns) (sym (sym (get_or-drop k ns j 0) ∙ e)) ∙ among_at ns (k + j) (omega (arith, length-drop k ns)))
      (λ j l e. ⊎_elim
      (λ low. absurd (omega (arith, cut.1 j low)))
      (λ high.
      let same : k + (j - k) ≡ j = omega arith in
      ap (is_among (drop k ns)) (sym (get_or-drop k ns (j - k) 0 ∙ ap (λ (x : ℕ). get_or ns x 0) same ∙ e))
      ∙ among_at (drop k ns) (j - k) (omega (arith, length-drop k ns)))
      (cases_lt j k))

module _ (ns : List ℕ) (before n : ℕ) where
  -- the first k of the numbers are put
  abbrev pub put_to : ℕ → ℕ → Bool
  put_to k j = is_among (take k ns) (before + j)

  pub put_none : pack n (λ j. false) ≡ pack n (put_to 0)
  put_none = pack_same n _ _ (λ j one l. sym (none_among (before + j)))

  pub put_more : (k place : ℕ) → k < length ns → before + place ≡ get_or ns k 0 → pack n (λ j. eqb j place || put_to k j) ≡ pack n (put_to (suc k))
  put_more k place l e = pack_same n _ _ (λ j one h. sym (among_more ns k (before + j) l ∙ ap (λ b. b || put_to k j) (⊎_elim
      (λ same. eq-eqb (before + j) (get_or ns k 0) (omega (arith, e)) ∙ sym (eq-eqb j place same))
      (λ apart. ne_eqb (before + j) (get_or ns k 0) (λ h. apart (omega (arith, e))) ∙ sym (ne_eqb j place apart))
      (cases_eq j place))))

  pub put_all : (up : Climbs ns) (k : ℕ) → (k < length ns → before + n < get_or ns k 0) → pack n (put_to k) ≡ pack n (λ j. is_among ns (before + j))
  put_all up k past = pack_same n _ _ (λ j one l. among_front ns up k (before + j) (λ h. omega (arith, past h)))
