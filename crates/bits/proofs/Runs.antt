-- A run of ones, word by word.
use Rattle.std.proofs.Common.{◌≡◌, ℕ, suc, ◌+◌, ◌-◌, ◌*◌, ◌/◌, ◌%◌, ◌^◌, ◌<◌, ◌≤◌, Bool, min, false, ◌&&◌, ◌||◌, eqb, leb, ltb, bit_and, sym, ap, ◌∙◌, ⊎_elim, arith, mod-lt}
use Rattle.std.proofs.lemmas.Bool.{cases_lt, le-leb, lt-leb, lt-ltb, le-ltb, eq-eqb, and_from, and_left, and_right}
use Rattle.std.proofs.lemmas.Bool.Decides.{nat_tests}
use Rattle.std.proofs.lemmas.Nat.Bits.{bit_at_and, ones_shl, ones_shr, bit_at_mask_inside, bit_at_mask_below, bit_at_mask_above, bit_at_ones, bit_at_ones_above}
use Rattle.bits.specs.Rows.{run}
use Rattle.bits.specs.Words.{digit, in_bytes, in_word}
use Rattle.bits.proofs.Held.{miss}

and_digit : (x y s : ℕ) → digit (bit_and x y) s ≡ (digit x s && digit y s)
and_digit x y s = at (x / 2 ^ s % 2) (y / 2 ^ s % 2) (mod-lt (x / 2 ^ s) (omega arith)) (mod-lt (y / 2 ^ s) (omega arith)) (bit_at_and x y s)
  where
    at : (a b : ℕ) → a < 2 → b < 2 → bit_and x y / 2 ^ s % 2 ≡ min a b → digit (bit_and x y) s ≡ (eqb a 1 && eqb b 1)
    at a b l h e = ap (λ d. eqb d 1) e ∙ grind (arith, nat_tests)

head_digit : (a s : ℕ) → a < 64 → digit ((2 ^ 64 - 1) * 2 ^ a % 2 ^ 64) s ≡ (leb a s && ltb s 64)
head_digit a s l =
    ap (λ x. digit x s) (ones_shl 64 a (omega arith))
    ∙ ⊎_elim
    (λ less. miss _ (bit_at_mask_below a 64 s less) ∙ sym (and_left _ _ (lt-leb a s less)))
    (λ more. ⊎_elim
    (λ within. eq-eqb _ 1 (bit_at_mask_inside a 64 s more within) ∙ sym (and_from _ _ (le-leb a s more) (lt-ltb s 64 within)))
    (λ past. miss _ (bit_at_mask_above a 64 s past) ∙ sym (and_right (leb a s) _ (le-ltb s 64 past)))
    (cases_lt s 64))
    (cases_lt s a)

tail_digit : (c s : ℕ) → c < 64 → digit ((2 ^ 64 - 1) / 2 ^ (63 - c)) s ≡ leb s c
tail_digit c s l =
    let e : 64 - (63 - c) ≡ suc c = omega arith in
    ap (λ x. digit x s) (ones_shr 64 (63 - c) (omega arith) ∙ ap (λ (y : ℕ). 2 ^ y - 1) e)
    ∙ ⊎_elim
    (λ more. miss _ (bit_at_ones_above (suc c) s more) ∙ sym (lt-leb s c more))
    (λ less. eq-eqb _ 1 (bit_at_ones (suc c) s (omega arith)) ∙ sym (le-leb s c less))
    (cases_lt c s)

module _ (first last : ℕ) (one : 1 ≤ first) (order : first ≤ last) where
  abbrev pub low : ℕ
  low = 8 * ((first - 1) / 64)

  abbrev pub high : ℕ
  high = 8 * ((last - 1) / 64)

  abbrev pub head : ℕ
  head = (2 ^ 64 - 1) * 2 ^ ((first - 1) % 64) % 2 ^ 64

  abbrev pub tail : ℕ
  tail = (2 ^ 64 - 1) / 2 ^ (63 - (last - 1) % 64)

  module _ (i : ℕ) (o : Bool) (from_one : 1 ≤ i) where
    in_head : in_word low head i ≡ (leb first i && leb i (8 * low + 64))
    in_head = ap (λ b. ltb (8 * low) i && b) (head_digit _ (i - suc (8 * low)) (mod-lt (first - 1) (omega arith))) ∙ grind (arith, nat_tests)

    in_tail : in_word high tail i ≡ (ltb (8 * high) i && leb i last)
    in_tail = ap (λ b. ltb (8 * high) i && b) (tail_digit _ (i - suc (8 * high)) (mod-lt (last - 1) (omega arith))) ∙ grind (arith, nat_tests)

    pub run_of_three : low < high → (in_word high tail i || (in_bytes (low + 8) high i || (in_word low head i || o))) ≡ (run first last i || o)
    run_of_three apart =
        ap (λ b. b || (in_bytes (low + 8) high i || (in_word low head i || o))) in_tail
        ∙ ap (λ b. (ltb (8 * high) i && leb i last) || (in_bytes (low + 8) high i || (b || o))) in_head
        ∙ grind (arith, nat_tests)

    pub run_of_one : low ≡ high → (in_word low (bit_and head tail) i || o) ≡ (run first last i || o)
    run_of_one same =
        let s = i - suc (8 * low) in
        ap (λ b. (ltb (8 * low) i && b) || o)
        (and_digit head tail s ∙ ap (λ b. b && digit tail s) (head_digit _ s (mod-lt (first - 1) (omega arith)))
        ∙ ap (λ b. (leb ((first - 1) % 64) s && ltb s 64) && b) (tail_digit _ s (mod-lt (last - 1) (omega arith))))
        ∙ grind (arith, nat_tests)

  pub run_past : (n i : ℕ) → last ≤ n → n < i → run first last i ≡ false
  run_past n i l h = and_right _ _ (lt-leb i last (omega arith))
