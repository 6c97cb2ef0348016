-- Which numbers are in a list.
use Rattle.std.proofs.Common.{◌≡◌, ℕ, zero, suc, ◌<◌, true, false, List, [], ◌∷◌, length, get_or, sym, refl, ◌∙◌, inl, inr, ⊎_elim, arith}
use Rattle.std.proofs.lemmas.Bool.{or_cases, or_left, or_right, eqb-true, eq-eqb, cases_Bool, both_ways}
use Rattle.sets.specs.declared.Sort.TheVariants.{Members}
use Rattle.sets.specs.Lists.{Among}
use Rattle.sets.specs.Made.{made_length}
use Rattle.sets.proofs.Made.{made_is}
use Rattle.list.specs.Decoding.{is_among, set_of, Decodes}

pub among_if : (ns : List ℕ) (i : ℕ) → is_among ns i ≡ true → Among ns i
unfolding is_among
among_if [] i e = both_ways false refl e
among_if (n ∷ ns) i e = ⊎_elim (λ same. inl (eqb-true i n same)) (λ more. inr (among_if ns i more)) (or_cases _ _ e)

pub if_among : (ns : List ℕ) (i : ℕ) → Among ns i → is_among ns i ≡ true
unfolding is_among
if_among [] i h = absurd h
if_among (n ∷ ns) i h = ⊎_elim (λ same. or_left _ _ (eq-eqb i n same)) (λ more. or_right _ _ (if_among ns i more)) h

-- ---- by their places

pub among_at : (ns : List ℕ) (j : ℕ) → j < length ns → is_among ns (get_or ns j 0) ≡ true
unfolding is_among
among_at [] j l = absurd (omega arith)
among_at (n ∷ ns) zero l = or_left _ _ (eq-eqb n n refl)
among_at (n ∷ ns) (suc j) l = or_right _ _ (among_at ns j (omega arith))

pub place_of : (ns : List ℕ) (i : ℕ) → is_among ns i ≡ true → (j : ℕ) × ((j < length ns) × (get_or ns j 0 ≡ i))
unfolding is_among
place_of [] i e = absurd (both_ways false refl e)
place_of (n ∷ ns) i e =
    ⊎_elim
    (λ same. (0, (omega arith, sym (eqb-true i n same))))
    (λ more. let on = place_of ns i more in (suc on.0, (omega (arith, on.1.0), on.1.1)))
    (or_cases _ _ e)

-- what stands at no place is not in the list
pub not_among : (ns : List ℕ) (i : ℕ) → ((j : ℕ) → j < length ns → get_or ns j 0 ≡ i → ⊥) → is_among ns i ≡ false
not_among ns i none = ⊎_elim (λ e. let at = place_of ns i e in absurd (none at.0 at.1.0 at.1.1)) (λ e. e) (cases_Bool (is_among ns i))

-- ---- the set

pub decodes : (u : ℕ) (ns : List ℕ) → Decodes u ns (set_of u ns)
decodes u ns = (
  made_length u (is_among ns),
  λ i l h.
      let is = made_is u (is_among ns) Members i l h in
      (λ e. among_if ns i (sym is ∙ e), λ m. is ∙ if_among ns i m),
)
