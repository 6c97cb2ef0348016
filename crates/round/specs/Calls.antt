-- What the calls that can be refused answer, in a round that ends at w: the first refusal that fits, or the result.
use Rattle.std.specs.Prelude.{ℕ, suc, ◌-◌, Bool, cond, ◌&&◌, List, length, Some, None, Ok, Err, Option, Result, nat_le, slice_index}
use Rattle.std.specs.Option.{ok_or}
use Rattle.faults.specs.declared.fault.Refusal.{Refusal}
use Rattle.faults.specs.declared.fault.Refusal.TheVariants.{NoBay, NoSign, Beyond, Behind, TooFew}
use Rattle.sets.specs.Search.{count_to}
use Rattle.sets.specs.Sets.{is_member, next_of, previous_of, rank_of, select_of}
use Rattle.sets.specs.declared.Sort.TheVariants.{Members}
use Rattle.round.specs.Posts.{posts}

-- go to q, at place p
abbrev pub go_to : ℕ → ℕ → ℕ → Result (Unit {0}) Refusal
go_to w p q = cond (nat_le 1 q) (cond (nat_le q (suc w)) (cond (nat_le p q) (Ok tt) (Err Behind)) (Err Beyond)) (Err NoBay)

-- how many members lie from a to b
unfoldable pub members_in : List Bool → ℕ → ℕ → ℕ
members_in f a b = count_to (λ j. nat_le a j && is_member f j) b

abbrev pub count_in : List Bool → ℕ → ℕ → ℕ → Result ℕ Refusal
count_in f w a b = cond (nat_le 1 a && nat_le a b) (cond (nat_le b w) (Ok (members_in f a b)) (Err Beyond)) (Err NoBay)

-- the bay if it is up to w, and else none
abbrev pub up_to : ℕ → Option ℕ → Option ℕ
up_to w None = None
up_to w (Some q) = cond (nat_le q w) (Some q) None

-- of a bay at or below p and one at or above it the nearer, and at equal distance the lower
abbrev pub nearer : ℕ → Option ℕ → Option ℕ → Option ℕ
nearer p None above = above
nearer p (Some a) None = Some a
nearer p (Some a) (Some b) = cond (nat_le (p - a) (b - p)) (Some a) (Some b)

abbrev pub nearest_to : List Bool → ℕ → ℕ → Option ℕ
nearest_to f w p = nearer p (previous_of f Members p) (up_to w (next_of f Members p))

abbrev pub nearest_at : List Bool → ℕ → ℕ → Result (Option ℕ) Refusal
nearest_at f w p = cond (nat_le 1 p) (cond (nat_le p w) (Ok (nearest_to f w p)) (Err Beyond)) (Err NoBay)

-- the post of sign s
abbrev pub post_of : ℕ → Result ℕ Refusal
post_of s = cond (nat_le 1 s && nat_le s (length posts)) (Ok (slice_index posts (s - 1))) (Err NoSign)

abbrev pub nearest_post : List Bool → ℕ → Result ℕ Refusal → Result (Option ℕ) Refusal
nearest_post f w (Ok p) = nearest_at f w p
nearest_post f w (Err e) = Err e

abbrev pub sign_at : List Bool → ℕ → ℕ → Result (Option ℕ) Refusal
sign_at f w s = nearest_post f w (post_of s)

abbrev pub pick_from : List Bool → ℕ → ℕ → Result ℕ Refusal
pick_from f w k = cond (nat_le 1 k) (cond (nat_le k (rank_of f Members w)) (ok_or (select_of f Members k) TooFew) (Err TooFew)) (Err NoBay)
