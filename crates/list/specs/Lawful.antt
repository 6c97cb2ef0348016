-- When numbers are the list of some of the bays 1 to u: they rise strictly, from 1 on, and none is above u.
use Rattle.std.specs.Prelude.{ℕ, suc, ◌-◌, ◌<◌, ◌≤◌, Bool, true, cond, ◌&&◌, List, [], ◌∷◌, length, Ok, Err, nat_le, slice_index}
use Rattle.faults.specs.Checks.{Check}
use Rattle.faults.specs.declared.fault.Flaw.TheVariants.{Content}
use Rattle.sets.specs.Lists.{Each, Rising}

abbrev pub RisesWithin : ℕ → List ℕ → Type 0
RisesWithin u ns = Rising 1 ns × Each (λ x. x ≤ u) ns

-- each number is below the next
abbrev pub Steps : List ℕ → Type 0
Steps ns = (j : ℕ) → suc j < length ns → slice_index ns j < slice_index ns (suc j)

-- where there are numbers, the first is 1 or above, and the last at most u
abbrev pub EndsWithin : ℕ → List ℕ → Type 0
EndsWithin u ns = 0 < length ns → (1 ≤ slice_index ns 0) × (slice_index ns (length ns - 1) ≤ u)

-- whether each number is above those before it, the first is p or above, and none is above u
unfoldable pub rises : ℕ → ℕ → List ℕ → Bool
rises u p [] = true
rises u p (n ∷ ns) = nat_le p n && (nat_le n u && rises u (suc n) ns)

abbrev pub list_check : ℕ → List ℕ → Check
list_check u ns = cond (rises u 1 ns) (Ok tt) (Err Content)
