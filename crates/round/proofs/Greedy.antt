-- How far a stretch can reach: the walk's stretches are lawful, and no lawful one that begins before reaches further.
use Rattle.std.proofs.Common.{◌≡◌, ℕ, suc, ◌+◌, ◌<◌, ◌≤◌, Bool, true, false, cond, ◌⊎◌, List, Some, None, Option, sym, ap, ◌∙◌, inl, inr, ⊎_elim, arith}
use Rattle.std.proofs.lemmas.Bool.{cond-true, cond-false, cond_both, and_parts, cases_lt, both_ways}
use Rattle.sets.specs.Sets.{is_member, next_of}
use Rattle.sets.specs.Laws.{NextIs}
use Rattle.sets.specs.declared.Sort.TheVariants.{Members}
use Rattle.sets.proofs.Lawful.{next_smallest}
use Rattle.round.specs.Machine.{end, stop, common, larger}
use Rattle.round.specs.Stretches.{Without, Lawful}
use Rattle.round.proofs.Walks.{larger_past}

-- up to the next member there is none
stop_without : (s : List Bool) (p w : ℕ) (r : Option ℕ) → NextIs s Members p r → Without s p (stop w r)
stop_without s p w None law = λ j l h. law j l
stop_without s p w (Some q) law = λ j l h. law.2 j l (omega arith)

-- and no row without a member reaches further
stop_reach : (s : List Bool) (a p m w : ℕ) (r : Option ℕ) → NextIs s Members p r → a ≤ p → m ≤ suc w → Without s a m → m ≤ stop w r
stop_reach s a p m w None law l h out = h
stop_reach s a p m w (Some q) law l h out =
    ⊎_elim (λ inside. absurd (both_ways _ (out q (omega (arith, law.0)) inside) law.1)) (λ past. omega arith) (cases_lt q m)

module _ (f c : List Bool) where
  pub reach : ℕ → ℕ
  reach p = cond (common f c p) (p + 1) (larger f c p)

  pub larger_lawful : (p : ℕ) → p < larger f c p → Lawful f c p (larger f c p)
  unfolding larger
  larger_lawful p past =
      let w = end f c in
      let of = stop w (next_of f Members p) in
      let oc = stop w (next_of c Members p) in (
        past,
        ⊎_elim
            (λ less. inr (inl (λ j l h. stop_without c p w (next_of c Members p) (next_smallest c Members p) j l (omega arith))))
            (λ more. inl (λ j l h. stop_without f p w (next_of f Members p) (next_smallest f Members p) j l (omega arith)))
            (cases_lt of oc),
      )

  pub reach_lawful : (p : ℕ) → p ≤ end f c → Lawful f c p (reach p)
  unfolding reach
  reach_lawful p l =
      cond_both (common f c p) (p + 1) (larger f c p) (Lawful f c p)
      (λ e. (omega arith, inr (inr (omega arith, e))))
      (λ e. larger_lawful p (larger_past f c p l e))

  pub reach_here : (p : ℕ) → common f c p ≡ true → reach p ≡ p + 1
  unfolding reach
  reach_here p e = cond-true (common f c p) (p + 1) (larger f c p) e

  pub reach_on : (p : ℕ) → common f c p ≡ false → reach p ≡ larger f c p
  unfolding reach
  reach_on p e = cond-false (common f c p) (p + 1) (larger f c p) e

  member_left : (p : ℕ) → common f c p ≡ true → is_member f p ≡ true
  unfolding common
  member_left p e = (and_parts _ _ e).0

  member_right : (p : ℕ) → common f c p ≡ true → is_member c p ≡ true
  unfolding common
  member_right p e = (and_parts _ _ e).1

  larger_reach : (a p m : ℕ) → a ≤ p → m ≤ suc (end f c) → Without f a m ⊎ Without c a m → m ≤ larger f c p
  unfolding larger
  larger_reach a p m l h out =
      let w = end f c in
      ⊎_elim
      (λ o. omega (arith, stop_reach f a p m w (next_of f Members p) (next_smallest f Members p) l h o))
      (λ o. omega (arith, stop_reach c a p m w (next_of c Members p) (next_smallest c Members p) l h o))
      out

  -- no stretch over p reaches further than the walk's
  pub longest : (a p m : ℕ) → Lawful f c a m → a ≤ p → p < m → m ≤ suc (end f c) → m ≤ reach p
  unfolding reach
  longest a p m law l h t =
      cond_both (common f c p) (p + 1) (larger f c p) (λ x. m ≤ x)
      (λ e. ⊎_elim
      (λ o. absurd (both_ways _ (o p l h) (member_left p e)))
      (⊎_elim (λ o. absurd (both_ways _ (o p l h) (member_right p e))) (λ one. omega (arith, one.0)))
      law.1)
      (λ e. ⊎_elim
      (λ o. larger_reach a p m l t (inl o))
      (⊎_elim
      (λ o. larger_reach a p m l t (inr o))
      (λ one. let same : p ≡ a = omega (arith, one.0) in absurd (both_ways _ (ap (common f c) (sym same) ∙ e) one.1)))
      law.1)
