-- Which bay the n-th of a sort is.
use Rattle.std.proofs.Common.{◌≡◌, ℕ, ◌+◌, ◌-◌, ◌<◌, ◌≤◌, Bool, false, leb, not, ◌⊎◌, List, length, get_or, Some, None, ap, ◌∙◌, inl, inr, ⊎_elim, arith}
use Rattle.std.specs.Bool.{then_some}
use Rattle.std.specs.List.{slice_get}
use Rattle.std.proofs.lemmas.Bool.{cases_lt, le-leb, lt-leb}
use Rattle.std.proofs.lemmas.Option.{slice_get-get_or, slice_get_past}
use Rattle.sets.specs.declared.Sort.{Sort}
use Rattle.sets.specs.declared.Sort.TheVariants.{Members, Others}
use Rattle.sets.specs.Made.{of_sort}
use Rattle.sets.specs.Search.{count_to}
use Rattle.sets.specs.Sets.{select_of}
use Rattle.sets.proofs.Made.{made_select}
use Rattle.sets.proofs.Tests.{count_le, count_less, count_others, kth_by}
use Rattle.list.specs.Decoding.{is_among, set_of}
use Rattle.list.specs.Places.{Inside, Climbs}
use Rattle.list.proofs.Members.{among_at}
use Rattle.list.proofs.Places.{count_place, count_all}

module _ (u : ℕ) (ns : List ℕ) where
  -- there is no 0-th, and no more than there are bays
  pub select_outside : (k : Sort) (n : ℕ) → (n ≡ 0) ⊎ (u < n) → None ≡ select_of (set_of u ns) k n
  select_outside k n out =
      kth_by (of_sort k (is_among ns)) n u None
      (⊎_elim (λ z. inl z) (λ past. inr (omega (arith, count_le (of_sort k (is_among ns)) u))) out)
      ∙ made_select u (is_among ns) k n

  -- the n-th of the others has as many members before it as it is above n
  pub select_other : (n r : ℕ) → 1 ≤ n → r ≡ count_to (is_among ns) (n + r) → is_among ns (n + r) ≡ false
      → then_some (leb (n + r) u) (n + r) ≡ select_of (set_of u ns) Others n
  select_other n r one before other =
      ⊎_elim
      (λ past.
      ap (λ b. then_some b (n + r)) (lt-leb (n + r) u past)
      ∙ kth_by f n u None (inr (omega (arith, nth, count_less f u (n + r) past (ap not other)))))
      (λ within. ap (λ b. then_some b (n + r)) (le-leb (n + r) u within) ∙ kth_by f n u (Some (n + r)) (omega arith, within, ap not other, nth))
      (cases_lt u (n + r))
      ∙ made_select u (is_among ns) Others n
    where
      f : ℕ → Bool
      f = of_sort Others (is_among ns)

      nth : count_to f (n + r) ≡ n
      nth = omega (arith, before, count_others (is_among ns) (n + r))

module _ (u : ℕ) (ns : List ℕ) (within : Inside u ns) (up : Climbs ns) where
  -- the n-th member is the n-th number
  pub select_member : (n : ℕ) → 1 ≤ n → slice_get ns (n - 1) ≡ select_of (set_of u ns) Members n
  select_member n one =
      ⊎_elim
      (λ l.
      slice_get-get_or ns (n - 1) 0 l
      ∙ kth_by (is_among ns) n u (Some (get_or ns (n - 1) 0))
      ((within (n - 1) l).0, (within (n - 1) l).1, among_at ns (n - 1) l, omega (arith, count_place u ns within up (n - 1) l)))
      (λ past. slice_get_past ns (n - 1) past ∙ kth_by (is_among ns) n u None (inr (omega (arith, count_all u ns within up))))
      (cases_lt (n - 1) (length ns))
      ∙ made_select u (is_among ns) Members n
