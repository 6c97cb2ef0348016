-- Whether a bay is a member, by whether its number is in the list.
use Rattle.std.proofs.Common.{◌≡◌, ℕ, ◌≤◌, true, List, sym, ◌∙◌, ⊎_elim, arith}
use Rattle.std.proofs.lemmas.Bool.{cases_lt}
use Rattle.sets.specs.declared.Sort.TheVariants.{Members}
use Rattle.sets.specs.Sets.{is_member}
use Rattle.sets.proofs.Bays.{is_none}
use Rattle.sets.proofs.Made.{made_is, made_outside}
use Rattle.list.specs.Decoding.{is_among, set_of}
use Rattle.list.specs.Places.{Inside}
use Rattle.list.proofs.Members.{place_of, not_among}

-- only bays are in the list
pub member_among : (u : ℕ) (ns : List ℕ) → Inside u ns → (i : ℕ) → is_member (set_of u ns) i ≡ is_among ns i
member_among u ns within i =
    ⊎_elim
    (λ none. is_none (set_of u ns) Members i (omega arith) ∙ sym (not_among ns i (λ j l e. omega (arith, (within j l).0))))
    (λ some. ⊎_elim
    (λ past. made_outside u (is_among ns) Members i past ∙ sym (not_among ns i (λ j l e. omega (arith, (within j l).1))))
    (λ bay. made_is u (is_among ns) Members i some bay)
    (cases_lt u i))
    (cases_lt i 1)

-- what is in the list is a bay
pub bay_among : (u : ℕ) (ns : List ℕ) → Inside u ns → (i : ℕ) → is_among ns i ≡ true → (1 ≤ i) × (i ≤ u)
bay_among u ns within i e =
    let at = place_of ns i e in
    let bay = within at.0 at.1.0 in
    (omega (arith, bay.0, at.1.1), omega (arith, bay.1, at.1.1))
