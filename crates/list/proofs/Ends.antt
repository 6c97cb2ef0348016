-- Whether a bay is a member, by the numbers beside the place where the list is cut.
use Rattle.std.proofs.Common.{◌≡◌, ℕ, ◌+◌, ◌-◌, ◌<◌, ◌≤◌, true, false, eqb, List, length, get_or, sym, ap, ◌∙◌, ⊎_elim, arith}
use Rattle.std.proofs.lemmas.Bool.{cases_lt, cases_Bool, eqb-true, eqb-false, both_ways}
use Rattle.list.specs.Decoding.{is_among}
use Rattle.list.specs.Places.{Cut, Climbs}
use Rattle.list.proofs.Members.{among_at}
use Rattle.list.proofs.Places.{grows, between, between_not}

module _ (ns : List ℕ) (up : Climbs ns) (i k : ℕ) (cut : Cut ns i k) where
  -- the last number that is at most i
  pub at_end : 0 < k → eqb (get_or ns (k - 1) 0) i ≡ is_among ns i
  at_end some = ⊎_elim
      (λ e. e ∙ sym (sym (ap (is_among ns) (eqb-true _ i e)) ∙ among_at ns (k - 1) (omega (arith, cut.0))))
      (λ e.
      let less : get_or ns (k - 1) 0 < i = let apart = eqb-false (get_or ns (k - 1) 0) i e in let most = cut.1 (k - 1) (omega arith) in omega (arith, most, apart) in
      e ∙ sym (between_not ns i k (between ns up i k cut.0 (λ p. less) (λ l. cut.2 k (omega arith) l))))
      (cases_Bool (eqb (get_or ns (k - 1) 0) i))

  pub no_end : k ≤ 0 → false ≡ is_among ns i
  no_end none = sym (between_not ns i k (cut.0, λ j l. absurd (omega arith), cut.2))

  -- the first that is above it
  pub at_next : k < length ns → eqb (get_or ns k 0) (i + 1) ≡ is_among ns (i + 1)
  at_next some = ⊎_elim
      (λ e. e ∙ sym (sym (ap (is_among ns) (eqb-true _ (i + 1) e)) ∙ among_at ns k some))
      (λ e.
      let more : i + 1 < get_or ns k 0 = let apart = eqb-false (get_or ns k 0) (i + 1) e in let least = cut.2 k (omega arith) some in omega (arith, least, apart) in
      e ∙ sym (between_not ns (i + 1) k (between ns up (i + 1) k cut.0 (λ p. omega (arith, cut.1 (k - 1) (omega arith))) (λ l. more))))
      (cases_Bool (eqb (get_or ns k 0) (i + 1)))

  pub no_next : length ns ≤ k → false ≡ is_among ns (i + 1)
  no_next none = sym (between_not ns (i + 1) k (cut.0, λ j l. omega (arith, cut.1 j l), λ j l h. absurd (omega arith)))

  -- a member is the last number that is at most it
  pub last_is : is_among ns i ≡ true → (0 < k) × (get_or ns (k - 1) 0 ≡ i)
  last_is e = ⊎_elim
      (λ none. absurd (both_ways _ (sym (no_end (omega arith))) e))
      (λ some. (some, eqb-true _ i (at_end some ∙ e)))
      (cases_lt k 1)

  -- without it, the list is cut one bay before
  pub cut_before : 1 ≤ i → is_among ns i ≡ true → Cut ns (i - 1) (k - 1)
  cut_before one e =
      let last = last_is e in (
        omega (arith, cut.0),
        λ j l. omega (arith, up j (k - 1) (l, omega (arith, cut.0, last.0)), last.1),
        λ j l h. omega (arith, grows ns up (k - 1) j l h, last.1),
      )
