-- The digits of what is passed, 64 at a time.
use Rattle.std.proofs.Common.{◌≡◌, ℕ, zero, suc, ◌+◌, ◌-◌, ◌*◌, ◌/◌, ◌%◌, ◌^◌, ◌<◌, min, max, Bool, true, false, ◌&&◌, ◌||◌, eqb, [], refl, sym, ap, ◌∙◌, arith, bit_or, lt_of_le_of_lt, pow_pos}
use lib.Bits.{bit_and}
use mir.Val.{bool_byte}
use Rattle.std.proofs.lemmas.Nat.{or_lt, and_le_l, mod_below}
use Rattle.std.proofs.lemmas.Nat.Bits.{bit_at_and, bit_at_or}
use Rattle.bits.specs.Words.{digit, Holds}
use Rattle.bits.proofs.Digits.{high_zero}
use Rattle.bits.proofs.Held.{miss}
use Rattle.bits.proofs.Moved.{up_low, up_high}
use Rattle.sets.specs.Packing.{digit_of}
use Rattle.strides.specs.declared.standing.Stance.{Stance}
use Rattle.strides.specs.Strides.{row_of, numbered, both, last_alone, is_fresh, begins}
use Rattle.strides.proofs.Numbering.{numbered_agree, zero_none}
use Rattle.strides.proofs.Carried.{digit_number, digit_back}

and_bool : (a b : Bool) → min (digit_of a) (digit_of b) ≡ digit_of (a && b)
and_bool true true = refl
and_bool true false = refl
and_bool false true = refl
and_bool false false = refl

or_bool : (a b : Bool) → max (digit_of a) (digit_of b) ≡ digit_of (a || b)
or_bool true true = refl
or_bool true false = refl
or_bool false true = refl
or_bool false false = refl

or_order : (a b c d : Bool) → (((a || b) || c) || d) ≡ (a || (b || (c || d)))
or_order true b c d = refl
or_order false true c d = refl
or_order false false true d = refl
or_order false false false d = refl

pub and_digit : (x y s : ℕ) → digit (bit_and x y) s ≡ (digit x s && digit y s)
and_digit x y s =
    ap (λ (d : ℕ). eqb d 1) (bit_at_and x y s ∙ (λ i. min (digit_number x s i) (digit_number y s i)) ∙ and_bool (digit x s) (digit y s))
    ∙ digit_back (digit x s && digit y s)

or_digit : (x y s : ℕ) → digit (bit_or x y) s ≡ (digit x s || digit y s)
or_digit x y s =
    ap (λ (d : ℕ). eqb d 1) (bit_at_or x y s ∙ (λ i. max (digit_number x s i) (digit_number y s i)) ∙ or_bool (digit x s) (digit y s))
    ∙ digit_back (digit x s || digit y s)

-- the numbers of the bits in both rows
pub both_numbered : (x y first : ℕ) → numbered (row_of (bit_and x y)) first 64 ≡ numbered (both (row_of x) (row_of y)) first 64
both_numbered x y first = numbered_agree (row_of (bit_and x y)) (both (row_of x) (row_of y)) first 64 (λ n l. and_digit x y n)

-- the stance before the first of the 64 bits, and both rows
module _ (s : Stance) (f c : ℕ) (f-fits : f < 2 ^ 64) where
  abbrev common : ℕ
  common = bit_and f c

  common_fits : common < 2 ^ 64
  common_fits = lt_of_le_of_lt (and_le_l f c) f-fits

  -- the bits behind those in both rows, and the first one where the stance is fresh
  abbrev fresh : ℕ
  fresh = bit_or (common * 2 % 2 ^ 64) (bool_byte s.fresh)

  byte_below : bool_byte s.fresh < 2
  byte_below = small s.fresh
    where
      small : (b : Bool) → bool_byte b < 2
      small true = omega arith
      small false = omega arith

  fresh_digit : (n : ℕ) → n < 64 → digit fresh n ≡ is_fresh (row_of f) (row_of c) s.fresh n
  fresh_digit zero l =
      or_digit (common * 2 % 2 ^ 64) (bool_byte s.fresh) 0
      ∙ ap (λ b. b || digit (bool_byte s.fresh) 0) (miss _ (up_low common 1 64 0 (omega arith) (omega arith)))
      ∙ byte s.fresh
    where
      byte : (b : Bool) → digit (bool_byte b) 0 ≡ b
      byte true = refl
      byte false = refl
  fresh_digit (suc n) l =
      let up : common * 2 % 2 ^ 64 / 2 ^ suc n % 2 ≡ common / 2 ^ n % 2 =
      up_high common 1 64 (suc n) l (omega arith) ∙ (let e : suc n - 1 ≡ n = omega arith in ap (λ (y : ℕ). common / 2 ^ y % 2) e) in
      or_digit (common * 2 % 2 ^ 64) (bool_byte s.fresh) (suc n)
      ∙ (λ i. eqb (up i) 1 || miss _ (high_zero (bool_byte s.fresh) 1 (suc n) byte_below (omega arith)) i)
      ∙ none (digit common n)
      ∙ and_digit f c n
    where
      none : (b : Bool) → (b || false) ≡ b
      none true = refl
      none false = refl

  -- what the last bit before each was, in either row
  module _ (in-class in-free : ℕ) (class-fits : in-class < 2 ^ 64) (free-fits : in-free < 2 ^ 64)
      (in-class-at : (n : ℕ) → n < 64 → digit in-class n ≡ last_alone (row_of c) (row_of f) s.in_class n)
      (in-free-at : (n : ℕ) → n < 64 → digit in-free n ≡ last_alone (row_of f) (row_of c) s.in_free n) (c-fits : c < 2 ^ 64) where
    abbrev starts : ℕ
    starts = bit_or (bit_or (bit_or fresh common) (bit_and f in-class)) (bit_and c in-free)

    start_digit : (n : ℕ) → n < 64 → begins (row_of f) (row_of c) s (suc n) ≡ digit starts n
    unfolding begins
    start_digit n l = sym
        (or_digit (bit_or (bit_or fresh common) (bit_and f in-class)) (bit_and c in-free) n
        ∙ (λ i. (or_digit (bit_or fresh common) (bit_and f in-class) n ∙ (λ j. or_digit fresh common n j || and_digit f in-class n j)) i || and_digit c in-free n i)
        ∙ (λ i. ((fresh_digit n l i || and_digit f c n i) || (digit f n && in-class-at n l i)) || (digit c n && in-free-at n l i))
        ∙ or_order (is_fresh (row_of f) (row_of c) s.fresh n) (digit f n && digit c n) (digit f n && last_alone (row_of c) (row_of f) s.in_class n)
        (digit c n && last_alone (row_of f) (row_of c) s.in_free n))

    pub starts_held : Holds (begins (row_of f) (row_of c) s) 0 64 starts
    starts_held = record {
      small =
          let one = or_lt 64 (common * 2 % 2 ^ 64) (bool_byte s.fresh) (mod_below (common * 2) (2 ^ 64) (pow_pos 64)) (omega (arith, byte_below)) in
          let two = or_lt 64 fresh common one common_fits in
          let three = or_lt 64 (bit_or fresh common) (bit_and f in-class) two (lt_of_le_of_lt (and_le_l f in-class) f-fits) in
          or_lt 64 (bit_or (bit_or fresh common) (bit_and f in-class)) (bit_and c in-free) three (lt_of_le_of_lt (and_le_l c in-free) c-fits);
      place = λ n l. (let e : suc (0 + n) ≡ suc n = omega arith in ap (begins (row_of f) (row_of c) s) e) ∙ start_digit n l;
    }

  pub fresh_behind : eqb (common / 2 ^ 63) 1 ≡ is_fresh (row_of f) (row_of c) s.fresh 64
  fresh_behind =
      let top : common / 2 ^ 63 ≡ common / 2 ^ 63 % 2 = omega (arith, common_fits) in
      ap (λ (d : ℕ). eqb d 1) top ∙ and_digit f c 63

-- where no bit is in both rows, no number is
pub none_both : (x y first : ℕ) → bit_and x y ≡ 0 → numbered (both (row_of x) (row_of y)) first 64 ≡ []
none_both x y first apart =
    sym (both_numbered x y first) ∙ ap (λ (z : ℕ). numbered (row_of z) first 64) apart ∙ zero_none first 64
