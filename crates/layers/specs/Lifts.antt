-- How a bay beneath is read in a level.
use Rattle.std.specs.Prelude.{ℕ, ◌-◌, cond, Some, None, Option, nat_le, nat_lt}

-- a bay beneath as a bay of the level whose u bays come after d others; none where it lies outside of them
abbrev pub lifted : ℕ → ℕ → Option ℕ → Option ℕ
lifted d u None = None
lifted d u (Some q) = cond (nat_lt d q) (cond (nat_le (q - d) u) (Some (q - d)) None) None
