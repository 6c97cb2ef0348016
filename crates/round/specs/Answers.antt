-- The laws of the calls that can be refused, in a round that ends at w: which refusal comes for which reason, and what the answer is
-- in the words of the free bays.
use Rattle.std.specs.Prelude.{◌≡◌, ℕ, suc, ◌-◌, ◌<◌, ◌≤◌, Bool, true, false, ◌⊎◌, List, length, Some, None, Ok, Err, Option, Result, slice_index}
use Rattle.std.specs.Int.{abs_diff}
use Rattle.faults.specs.Numbers.{RefusedBy}
use Rattle.faults.specs.declared.fault.Refusal.{Refusal}
use Rattle.sets.specs.Lists.{ListOf}
use Rattle.sets.specs.Sets.{is_member, rank_of}
use Rattle.sets.specs.declared.Sort.TheVariants.{Members}
use Rattle.round.specs.Posts.{posts}

-- go to q, at place p
abbrev pub GoIs : ℕ → ℕ → ℕ → Result (Unit {0}) Refusal → Type 0
GoIs w p q (Ok _) = (1 ≤ q) × (q ≤ suc w) × (p ≤ q)
GoIs w p q (Err e) =
    RefusedBy 7 e (q ≡ 0) ⊎ (RefusedBy 9 e (suc w < q) ⊎ RefusedBy 10 e ((1 ≤ q) × (q ≤ suc w) × (q < p)))

-- n is the length of the rising list of all members from a to b
abbrev pub CountIs : List Bool → ℕ → ℕ → ℕ → Result ℕ Refusal → Type 0
CountIs f w a b (Ok n) =
    (1 ≤ a) × (a ≤ b) × (b ≤ w)
    × ((bays : List ℕ) × (ListOf (λ j. (a ≤ j) × (j ≤ b) × (is_member f j ≡ true)) bays × (length bays ≡ n)))
CountIs f w a b (Err e) = RefusedBy 7 e ((a ≡ 0) ⊎ (b < a)) ⊎ RefusedBy 9 e ((1 ≤ a) × (a ≤ b) × (w < b))

-- a member up to w such that each other is farther from p, or as far and higher; none where there is no member up to w
abbrev pub Nearest : List Bool → ℕ → ℕ → Option ℕ → Type 0
Nearest f w p None = (j : ℕ) → j ≤ w → is_member f j ≡ false
Nearest f w p (Some q) =
    (q ≤ w) × (is_member f q ≡ true)
    × ((j : ℕ) → j ≤ w → is_member f j ≡ true → (abs_diff p q ≤ abs_diff p j) × (abs_diff p j ≡ abs_diff p q → q ≤ j))

abbrev pub NearestIs : List Bool → ℕ → ℕ → Result (Option ℕ) Refusal → Type 0
NearestIs f w p (Ok r) = (1 ≤ p) × (p ≤ w) × Nearest f w p r
NearestIs f w p (Err e) = RefusedBy 7 e (p ≡ 0) ⊎ RefusedBy 9 e (w < p)

-- there is a sign s
abbrev pub Sign : ℕ → Type 0
Sign s = (1 ≤ s) × (s ≤ length posts)

-- the post of sign s
abbrev pub PostIs : ℕ → Result ℕ Refusal → Type 0
PostIs s (Ok p) = Sign s × (p ≡ slice_index posts (s - 1))
PostIs s (Err e) = RefusedBy 8 e (Sign s → ⊥)

-- the nearest at the post of sign s
abbrev pub SignIs : List Bool → ℕ → ℕ → Result (Option ℕ) Refusal → Type 0
SignIs f w s (Ok r) = Sign s × (slice_index posts (s - 1) ≤ w) × Nearest f w (slice_index posts (s - 1)) r
SignIs f w s (Err e) = RefusedBy 8 e (Sign s → ⊥) ⊎ RefusedBy 9 e (Sign s × (w < slice_index posts (s - 1)))

-- the member, up to w, up to and with which there are k members
abbrev pub PickIs : List Bool → ℕ → ℕ → Result ℕ Refusal → Type 0
PickIs f w k (Ok q) = (q ≤ w) × (is_member f q ≡ true) × (rank_of f Members q ≡ k)
PickIs f w k (Err e) = RefusedBy 7 e (k ≡ 0) ⊎ RefusedBy 11 e ((1 ≤ k) × (rank_of f Members w < k))
