-- What is asked of a set turned is asked of the other sort of the set.
use Rattle.std.proofs.Common.{◌≡◌, ℕ, suc, ◌-◌, ◌<◌, ◌≤◌, Bool, true, false, not, List, length, get_or, sym, refl, ap, ◌∙◌, ⊎_elim, arith}
use Rattle.std.proofs.lemmas.Bool.{cases_lt}
use Rattle.std.proofs.lemmas.Bool.Decides.{nat_tests}
use Rattle.sets.specs.declared.Sort.{Sort}
use Rattle.sets.specs.declared.Sort.TheVariants.{Members, Others}
use Rattle.sets.specs.Search.{first_from, last_to, count_to, kth_to}
use Rattle.sets.specs.Sets.{is, is_member, fits, next_of, previous_of, rank_of, select_of}
use Rattle.sets.specs.Made.{made_length}
use Rattle.sets.proofs.Bays.{is_inside, is_beyond, is_none}
use Rattle.sets.proofs.Made.{made_is, made_outside}
use Rattle.layers.specs.Layers.{turned, other}

pub turned_length : (s : List Bool) → length (turned s) ≡ length s
turned_length s = made_length (length s) (is s Others)

turn_fits : (k : Sort) (b : Bool) → fits k (not b) ≡ fits (other k) b
turn_fits Members b = refl
turn_fits Others true = refl
turn_fits Others false = refl

turned_inside : (s : List Bool) (k : Sort) (i : ℕ) → 1 ≤ i → i ≤ length s → is (turned s) k i ≡ is s (other k) i
turned_inside s k i h l =
    made_is (length s) (is s Others) k i h l
    ∙ ap (fits k) (is_inside s Others i h l)
    ∙ turn_fits k (get_or s (i - 1) false)
    ∙ sym (is_inside s (other k) i h l)

pub turned_is : (s : List Bool) (k : Sort) (i : ℕ) → is (turned s) k i ≡ is s (other k) i
turned_is s k i =
    ⊎_elim
    (λ none. is_none (turned s) k i (omega arith) ∙ sym (is_none s (other k) i (omega arith)))
    (λ some. ⊎_elim
    (λ beyond. made_outside (length s) (is s Others) k i beyond ∙ sym (is_beyond s (other k) i beyond))
    (λ within. turned_inside s k i some within)
    (cases_lt (length s) i))
    (cases_lt i 1)

module _ (s : List Bool) (k : Sort) where
  pub next_turned : (i : ℕ) → next_of (turned s) k i ≡ next_of s (other k) i
  unfolding next_of
  next_turned i = λ t. first_from (λ b. turned_is s k b t) i (suc (turned_length s t) - i)

  pub previous_turned : (i : ℕ) → previous_of (turned s) k i ≡ previous_of s (other k) i
  unfolding previous_of
  previous_turned i = λ t. last_to (λ b. turned_is s k b t) i

  pub rank_turned : (i : ℕ) → rank_of (turned s) k i ≡ rank_of s (other k) i
  unfolding rank_of
  rank_turned i = λ t. count_to (λ b. turned_is s k b t) i

  pub select_turned : (n : ℕ) → select_of (turned s) k n ≡ select_of s (other k) n
  unfolding select_of
  select_turned n = λ t. kth_to (λ b. turned_is s k b t) n (turned_length s t)

-- a bay is a member turned exactly if it is a bay and no member beneath
pub turned_member : (s : List Bool) (i : ℕ) → 1 ≤ i → i ≤ length s → not (is_member s i) ≡ is_member (turned s) i
turned_member s i low high =
    ap not (is_inside s Members i low high) ∙ sym (is_inside s Others i low high) ∙ sym (turned_is s Members i)

pub turned_zero : (s : List Bool) (i : ℕ) → i ≡ 0 → is_member (turned s) i ≡ false
turned_zero s i none = turned_is s Members i ∙ is_none s Others i none

pub turned_beyond : (s : List Bool) (i : ℕ) → length s < i → is_member (turned s) i ≡ false
turned_beyond s i beyond = turned_is s Members i ∙ is_beyond s Others i beyond

-- what the questions of a set turned take
pub ruleset turning =
    (nat_tests, turned_length, turned_is, turned_member, turned_zero, turned_beyond, next_turned, previous_turned, rank_turned, select_turned)
