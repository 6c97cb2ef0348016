-- What opening a list index answers, and what the index must be.
use Rattle.std.specs.Prelude.{ℕ, List}
use Rattle.faults.specs.Checks.{Verdict, last_check, located, first_of, Needs, Accepted}
use Rattle.faults.specs.declared.fault.Form as forms
use Rattle.sets.specs.Sets.{LastBay}
use Rattle.list.specs.Lawful.{RisesWithin, list_check}

-- the numbers passed in are part 0, the list is part 1
abbrev pub opening : ℕ → List ℕ → Verdict
opening u ns = first_of (located forms.TheVariants.List 0 (last_check u)) (located forms.TheVariants.List 1 (list_check u ns))

-- what a list index must be, in the order in which it is asked: a last bay in range, and numbers that rise strictly from 1 to it
abbrev pub OpeningIs : ℕ → List ℕ → Verdict → Type 0
OpeningIs u ns = Needs forms.TheVariants.List 1 0 (LastBay u) (Needs forms.TheVariants.List 3 1 (RisesWithin u ns) Accepted)
