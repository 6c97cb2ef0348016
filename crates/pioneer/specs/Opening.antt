-- What opening a pioneer index answers.
use Rattle.std.specs.Prelude.{ℕ, ◌+◌, ◌-◌, ◌≤◌, Bool, cond, not, ◌&&◌, ◌||◌, List, Ok, Err, ◌==◌, nat_le, nat_lt}
use Rattle.faults.specs.Checks.{Check, Verdict, last_check, none_found, located, first_of, Needs, Accepted}
use Rattle.faults.specs.declared.fault.Flaw.TheVariants.{Numbers, Unlawful}
use Rattle.faults.specs.declared.fault.Form as forms
use Rattle.sets.specs.Search.{first_from, count_to}
use Rattle.sets.specs.Sets.{LastBay}
use Rattle.bits.specs.Bits.{bit_at}
use Rattle.bits.specs.Checks.{Whole, Clear, length_check, spare_check}
use Rattle.pioneer.specs.Runs.{runs, start_of, behind_of, Lawful}

-- there are not more members than bays
abbrev pub count_check : ℕ → ℕ → Check
count_check n u = cond (nat_le n u) (Ok tt) (Err Numbers)

module _ (u n : ℕ) (P L : ℕ → Bool) where
  -- run r begins past the bay behind the run before it, and ends within the bays
  abbrev pub run_fits : ℕ → Bool
  run_fits r = nat_lt (behind_of u n P L (r - 1)) (start_of u n P L r) && nat_le (behind_of u n P L r) (u + 1)

  abbrev pub runs_check : Check
  runs_check =
      cond (runs u n P L == count_to L n && (n == 0 || L n))
      (none_found Unlawful (first_from (λ r. not (run_fits r)) 1 (runs u n P L)))
      (Err Unlawful)

-- the numbers are part 0, the first bays of the runs are part 1, the sums of their lengths are part 2
abbrev pub opening : ℕ → ℕ → List ℕ → List ℕ → Verdict
opening u n starts sums =
    first_of (located forms.TheVariants.Pioneer 0 (last_check u))
    (first_of (located forms.TheVariants.Pioneer 0 (count_check n u))
    (first_of (located forms.TheVariants.Pioneer 1 (length_check u starts))
    (first_of (located forms.TheVariants.Pioneer 2 (length_check n sums))
    (first_of (located forms.TheVariants.Pioneer 1 (spare_check u starts))
    (first_of (located forms.TheVariants.Pioneer 2 (spare_check n sums))
    (located forms.TheVariants.Pioneer 2 (runs_check u n (bit_at starts) (bit_at sums))))))))

-- what a pioneer index must be, in the order in which it is asked: a last bay in range, no more members than bays, both parts of
-- exactly as many bytes as their bits take, no 1 after their last bits, and rows that make an index
abbrev pub OpeningIs : ℕ → ℕ → List ℕ → List ℕ → Verdict → Type 0
OpeningIs u n starts sums =
    Needs forms.TheVariants.Pioneer 1 0 (LastBay u)
    (Needs forms.TheVariants.Pioneer 1 0 (n ≤ u)
    (Needs forms.TheVariants.Pioneer 2 1 (Whole u starts)
    (Needs forms.TheVariants.Pioneer 2 2 (Whole n sums)
    (Needs forms.TheVariants.Pioneer 3 1 (Clear u starts)
    (Needs forms.TheVariants.Pioneer 3 2 (Clear n sums)
    (Needs forms.TheVariants.Pioneer 6 2 (Lawful u n (bit_at starts) (bit_at sums)) Accepted))))))
