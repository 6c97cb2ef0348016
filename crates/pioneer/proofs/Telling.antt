-- What lawful rows say of the set that they stand for.
use Rattle.std.proofs.Common.{◌≡◌, ℕ, ◌+◌, ◌-◌, ◌≤◌, min, Bool, true, false, not, ◌&&◌, List, sym, refl, ap, ◌∙◌, ⊎_elim, arith}
use Rattle.std.proofs.lemmas.Bool.{cases_Bool, cases_lt, both_ways, and_left, and_right}
use Rattle.sets.specs.declared.Sort.TheVariants.{Members}
use Rattle.sets.specs.Made.{set_by, made_length}
use Rattle.sets.specs.Search.{count_to}
use Rattle.sets.specs.Sets.{is_member, rank_of}
use Rattle.sets.proofs.Bays.{is_bay, is_none}
use Rattle.sets.proofs.Made.{made_is, made_outside, made_rank}
use Rattle.sets.proofs.Tests.{count_mono}
use Rattle.bits.specs.Bits.{bit_at}
use Rattle.pioneer.specs.Decoding.{LiesIn, Tells, Decodes}
use Rattle.pioneer.specs.Runs.{start_of, sum_of, behind_of, in_run, IsRun, Lawful, set_of}
use Rattle.pioneer.proofs.Places.{place_law, place_between}
use Rattle.pioneer.proofs.Ranks.{stands, rank_told, rank_all, begun_by, last_begun}
use Rattle.pioneer.proofs.Sides.{inside_parts, run_inside, run_behind, run_before, pioneer, pioneer_in}

module _ (u n : ℕ) (P L : ℕ → Bool) (law : Lawful u n P L) where
  abbrev told_set : List Bool
  told_set = set_by u (in_run u n P L)

  member_in : (i : ℕ) → is_member told_set i ≡ true → (1 ≤ i) × (i ≤ u) × (in_run u n P L i ≡ true)
  member_in i e =
      let bay = is_bay told_set Members i e in
      let h : i ≤ u = omega (arith, bay.1, made_length u (in_run u n P L)) in
      (bay.0, h, sym (made_is u (in_run u n P L) Members i bay.0 h) ∙ e)

  lies_in : (i : ℕ) → is_member told_set i ≡ true → (r : ℕ) × LiesIn u n P L i r
  lies_in i e =
      let in' = member_in i e in
      let parts = inside_parts u n P L i in'.2 in
      let at = last_begun u n P L law i _ in'.1 refl parts.0 in
      (count_to P i, ((parts.0, count_mono P i u in'.1), at.1, parts.1))

  in_run_lem : (i r : ℕ) → LiesIn u n P L i r → is_member told_set i ≡ true
  in_run_lem i r lies =
      let at = stands u n P L law r lies.0 in
      let l : 1 ≤ i = omega (arith, lies.1) in
      made_is u (in_run u n P L) Members i l (omega (arith, lies.2)) ∙ run_inside u n P L law i r lies.0 lies.1 lies.2

  no_member : (i : ℕ) → in_run u n P L i ≡ false → is_member told_set i ≡ false
  no_member i e = ⊎_elim
      (λ none. is_none told_set Members i (omega arith))
      (λ some. ⊎_elim (λ beyond. made_outside u _ Members i beyond) (λ within. made_is u (in_run u n P L) Members i some within ∙ e) (cases_lt u i))
      (cases_lt i 1)

  ranked : (i : ℕ) → i ≤ u → rank_of told_set Members i ≡ count_to (in_run u n P L) i
  ranked i h =
      let same : min i u ≡ i = omega arith in
      sym (made_rank u (in_run u n P L) Members i) ∙ ap (count_to (in_run u n P L)) same

  -- ---- the bits of P

  first_is : (i : ℕ) → 1 ≤ i → i ≤ u → P i ≡ true → (is_member told_set i ≡ true) × (is_member told_set (i - 1) ≡ false)
  first_is i l h e =
      let first = pioneer u n P L law i l h e in (
        made_is u (in_run u n P L) Members i l h ∙ pioneer_in u n P L law i l h e,
        no_member (i - 1) (run_before u n P L law (i - 1) (count_to P i) first.0 (omega (arith, first.1))),
      )

  -- a member that is not the first of its run has a member before it
  not_first : (i : ℕ) → P i ≡ false → is_member told_set i ≡ true → is_member told_set (i - 1) ≡ true
  not_first i e m =
      let lies = lies_in i m in
      let r = lies.0 in
      let at = stands u n P L law r lies.1.0 in
      ⊎_elim
      (λ less. in_run_lem (i - 1) r (lies.1.0, omega arith, omega (arith, lies.1.2)))
      (λ more.
      let same : start_of u n P L r ≡ i = omega (arith, lies.1.1) in
      absurd (both_ways _ e (sym (ap P same) ∙ at.marked)))
      (cases_lt (start_of u n P L r) i)

  starts_by : (i : ℕ) → 1 ≤ i → i ≤ u → P i ≡ (is_member told_set i && not (is_member told_set (i - 1)))
  starts_by i l h = ⊎_elim
      (λ e. let sides = first_is i l h e in e ∙ sym (λ t. sides.0 t && not (sides.1 t)))
      (λ e. e ∙ sym (⊎_elim (λ m. and_right _ _ (ap not (not_first i e m))) (λ m. and_left _ _ m) (cases_Bool (is_member told_set i))))
      (cases_Bool (P i))

  -- ---- the bits of L

  -- the number of a member among the members
  number : (i r : ℕ) → LiesIn u n P L i r → rank_of told_set Members i ≡ sum_of u n P L (r - 1) + (i + 1 - start_of u n P L r)
  number i r lies =
      let at = stands u n P L law r lies.0 in
      let h : i ≤ u = omega (arith, lies.2) in
      let begun = begun_by u n P L law i r h lies.0 lies.1 (omega (arith, lies.2)) in
      ranked i h ∙ omega (arith, rank_told u n P L law i r h begun, lies.2)

  none_after : (i r : ℕ) → IsRun u n P L r → i ≡ behind_of u n P L r → is_member told_set i ≡ false
  none_after i r is e =
      ⊎_elim (λ beyond. made_outside u _ Members i beyond) (λ within. no_member i (run_behind u n P L law i r is e within)) (cases_lt u i)

  sums_by : (i : ℕ) → is_member told_set i ≡ true → L (rank_of told_set Members i) ≡ not (is_member told_set (i + 1))
  sums_by i m =
      let run = lies_in i m in
      let r = run.0 in
      let lies = run.1 in
      let at = stands u n P L law r lies.0 in
      let few : r ≤ count_to L n = omega (arith, law.0, lies.0.1) in
      let rank = number i r lies in
      ⊎_elim
      (λ less.
      place_between L n r _ lies.0.0 few (omega (arith, rank, lies.1)) (omega (arith, rank, lies.1))
      ∙ sym (ap not (in_run_lem (i + 1) r (lies.0, omega (arith, lies.1), less))))
      (λ more.
      let same : rank_of told_set Members i ≡ sum_of u n P L r = omega (arith, rank, lies.1, lies.2) in
      ap L same ∙ (place_law L n r lies.0.0 few).2 ∙ sym (ap not (none_after (i + 1) r lies.0 (omega (arith, lies.2)))))
      (cases_lt (i + 1) (behind_of u n P L r))

  pub tells : Tells u n P L told_set
  tells = record {
    lies = lies_in;
    members = in_run_lem;
    count = ranked u (omega arith) ∙ rank_all u n P L law;
    starts = starts_by;
    sums = sums_by;
  }

pub decodes : (u n : ℕ) (starts sums : List ℕ) → Decodes u n starts sums (set_of u n starts sums)
decodes u n starts sums = (made_length u _, tells u n (bit_at starts) (bit_at sums))
