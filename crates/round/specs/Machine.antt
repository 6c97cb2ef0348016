-- The round as a machine over the two sets that it goes through: f is free, c is the class.
use Rattle.std.specs.Prelude.{ℕ, zero, suc, ◌+◌, ◌-◌, min, max, Bool, cond, ◌&&◌, List, length, Some, None, Option, nat_le}
use Rattle.sets.specs.Sets.{is_member, next_of}
use Rattle.sets.specs.declared.Sort.TheVariants.{Members}
use Rattle.round.specs.declared.walk.Walked.{Walked}

-- the last bay of a round: the smaller of the two last bays
abbrev pub end : List Bool → List Bool → ℕ
end f c = min (length f) (length c)

-- a bay that a set was asked for, in a round that ends at w: none, or one beyond w, is read as w + 1
abbrev pub stop : ℕ → Option ℕ → ℕ
stop w None = suc w
stop w (Some q) = min q (suc w)

module _ (f c : List Bool) where
  -- a common bay is a member of both
  unfoldable pub common : ℕ → Bool
  common p = is_member f p && is_member c p

  -- the larger of the next members at p: where p is not common, the stretch from p is the bays before it
  unfoldable pub larger : ℕ → ℕ
  larger p = max (stop (end f c) (next_of f Members p)) (stop (end f c) (next_of c Members p))

  -- at most m stretches from p on, after n others, until one is a common bay or the round is at its end
  unfoldable pub walk : ℕ → ℕ → ℕ → Walked
  walk zero p n = record { taken = record { bay = None; stretches = n }; place = p }
  walk (suc m) p n =
      cond (nat_le p (end f c))
      (cond (common p) (record { taken = record { bay = Some p; stretches = n + 1 }; place = p + 1 }) (walk m (larger p) (n + 1)))
      (record { taken = record { bay = None; stretches = n }; place = p })

  -- each stretch takes a bay or more, so that as many stretches as there are bays suffice
  unfoldable pub next_from : ℕ → Walked
  next_from p = walk (suc (end f c) - p) p 0
