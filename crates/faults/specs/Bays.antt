-- Whether numbers are bays of a set: from a to b, one or more, and none beyond the last bay u.
use Rattle.std.specs.Prelude.{◌≡◌, ℕ, ◌<◌, ◌≤◌, cond, ◌&&◌, ◌⊎◌, Ok, Err, Result, nat_le}
use Rattle.faults.specs.Numbers.{RefusedBy}
use Rattle.faults.specs.declared.fault.Refusal.{Refusal}
use Rattle.faults.specs.declared.fault.Refusal.TheVariants.{NoBay, Beyond}

abbrev pub bays_check : ℕ → ℕ → ℕ → Result (Unit {0}) Refusal
bays_check a b u = cond (nat_le 1 a && nat_le a b) (cond (nat_le b u) (Ok tt) (Err Beyond)) (Err NoBay)

-- they are, or which refusal comes for which reason
abbrev pub BaysAre : ℕ → ℕ → ℕ → Result (Unit {0}) Refusal → Type 0
BaysAre a b u (Ok _) = (1 ≤ a) × (a ≤ b) × (b ≤ u)
BaysAre a b u (Err e) = RefusedBy 7 e ((a ≡ 0) ⊎ (b < a)) ⊎ RefusedBy 9 e ((1 ≤ a) × (a ≤ b) × (u < b))
