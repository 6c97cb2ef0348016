-- Ones added to the bits of a memory: byte by byte, and what a bitvector at its front is then.
use Rattle.std.proofs.Common.{◌≡◌, ℕ, ◌+◌, ◌-◌, ◌*◌, ◌/◌, ◌%◌, ◌^◌, ◌<◌, ◌≤◌, max, Bool, false, ◌&&◌, ◌||◌, eqb, leb, ltb, List, length, get_or, drop, length-append, length-drop, bit_or, sym, ap, ◌∙◌, ⊎_elim, arith, mod-lt}
use Rattle.std.proofs.lemmas.Bool.{cases_lt, le-leb, lt-leb, eq-eqb, lt-ltb, le-ltb, and_from, and_left, and_right, or_left}
use Rattle.std.proofs.lemmas.Bool.Decides.{nat_tests}
use Rattle.std.proofs.lemmas.List.{ext_get_or, get_or_append_left, get_or-append_right, get_or-drop}
use Rattle.std.proofs.lemmas.Nat.Bits.{bit_at_or, bit_at_ones}
use Rattle.sets.specs.Lists.{over}
use Rattle.sets.specs.Packing.{bytes_for, pack}
use Rattle.sets.proofs.Packing.{bit, pack_length, pack_byte}
use Rattle.bits.specs.Bits.{bit_at}
use Rattle.bits.specs.Words.{digit, Adds, in_bytes}
use Rattle.bits.proofs.Bytes.{byte_held, bit_as_digit, same_byte}
use Rattle.bits.proofs.Values.{value_only, held_same}
use Rattle.bits.proofs.Packing.{pack_bit}

-- ---- a digit of two numbers together

pub or_digit : (x y s : ℕ) → digit (bit_or x y) s ≡ (digit y s || digit x s)
or_digit x y s = at (x / 2 ^ s % 2) (y / 2 ^ s % 2) (mod-lt (x / 2 ^ s) (omega arith)) (mod-lt (y / 2 ^ s) (omega arith)) (bit_at_or x y s)
  where
    at : (a b : ℕ) → a < 2 → b < 2 → bit_or x y / 2 ^ s % 2 ≡ max a b → digit (bit_or x y) s ≡ (eqb b 1 || eqb a 1)
    at a b l h e = ap (λ d. eqb d 1) e ∙ grind (arith, nat_tests)

-- ---- bytes filled with ones

pub filled_adds : (a b : ℕ) (before after : List ℕ) → ((j : ℕ) → j < a → get_or after j 0 ≡ get_or before j 0) → ((j : ℕ) → b ≤ j → get_or after j 0 ≡ get_or before j 0)
    → ((j : ℕ) → a ≤ j → j < b → get_or after j 0 ≡ 255) → Adds (in_bytes a b) before after
filled_adds a b before after front behind ones i one last =
    let j = (i - 1) / 8 in
    ⊎_elim
    (λ less. same_byte after before i one (front j less) ∙ ap (λ c. (c && ltb j b) || bit_at before i) (sym (lt-leb a j less)))
    (λ more. ⊎_elim
    (λ within.
    bit_as_digit after i one ∙ ap (λ x. digit x ((i - 1) % 8)) (ones j more within) ∙ eq-eqb _ 1 (bit_at_ones 8 ((i - 1) % 8) (mod-lt (i - 1) (omega arith)))
    ∙ sym (or_left _ _ (and_from _ _ (le-leb a j more) (lt-ltb j b within))))
    (λ past. same_byte after before i one (behind j past) ∙ ap (λ c. c || bit_at before i) (sym (and_right (leb a j) _ (le-ltb j b past))))
    (cases_lt j b))
    (cases_lt j a)

-- ---- a bitvector at the front

module _ (n : ℕ) (f : ℕ → Bool) (old before : List ℕ) (e : before ≡ over (pack n f) old) (room : bytes_for n ≤ length old) where
  module _ (g : ℕ → Bool) where
    pub over_long : length (over (pack n g) old) ≡ length old
    over_long = omega (arith, length-append (pack n g) (drop (length (pack n g)) old), length-drop (length (pack n g)) old, pack_length n g)

    over_front : (j : ℕ) → j < bytes_for n → get_or (over (pack n g) old) j 0 ≡ get_or (pack n g) j 0
    over_front j l = get_or_append_left (pack n g) _ 0 j (omega (arith, pack_length n g))

    over_behind : (j : ℕ) → bytes_for n ≤ j → get_or (over (pack n g) old) j 0 ≡ get_or old j 0
    over_behind j l =
        let on : bytes_for n + (j - bytes_for n) ≡ j = omega arith in
        get_or-append_right (pack n g) _ (bytes_for n) j 0 (pack_length n g) l
        ∙ ap (λ (k : ℕ). get_or (drop k old) (j - bytes_for n) 0) (pack_length n g) ∙ get_or-drop (bytes_for n) old (j - bytes_for n) 0 ∙ ap (λ (k : ℕ). get_or old k 0) on

  front_bit : (i : ℕ) → 1 ≤ i → i ≤ 8 * bytes_for n → bit_at before i ≡ bit n f i
  front_bit i one last =
      same_byte before (pack n f) i one (ap (λ bs. get_or bs ((i - 1) / 8) 0) e ∙ over_front f ((i - 1) / 8) (omega arith))
      ∙ pack_bit n f i one last

  module _ (t : ℕ → Bool) (after : List ℕ) (none : (i : ℕ) → n < i → t i ≡ false) (adds : Adds t before after) where
    abbrev more : ℕ → Bool
    more i = t i || f i

    long : length before ≡ length old
    long = ap length e ∙ over_long f

    with_front : (i : ℕ) → (t i || bit n f i) ≡ bit n more i
    with_front i = ⊎_elim
        (λ past. ap (λ c. c || bit n f i) (none i past) ∙ and_left _ _ (lt-leb i n past) ∙ sym (and_left _ _ (lt-leb i n past)))
        (λ in_it. ap (λ c. t i || (c && f i)) (le-leb i n in_it) ∙ sym (ap (λ c. c && more i) (le-leb i n in_it)))
        (cases_lt n i)

    module _ (j : ℕ) (within : j < length old) (small : get_or after j 0 < 256) where
      byte_front : j < bytes_for n → get_or after j 0 ≡ get_or (over (pack n more) old) j 0
      byte_front l =
          let at : (i : ℕ) → 8 * j < i → i ≤ 8 * j + 8 → bit_at after i ≡ bit n more i = λ i low high.
          adds i (omega arith) (omega (arith, long)) ∙ ap (λ c. t i || c) (front_bit i (omega arith) (omega arith)) ∙ with_front i in
          value_only (bit n more) (8 * j) 8 _ (held_same _ _ (8 * j) 8 _ at (byte_held after j small)) ∙ sym (over_front more j l ∙ pack_byte n more j l)

      byte_behind : get_or before j 0 < 256 → bytes_for n ≤ j → get_or after j 0 ≡ get_or (over (pack n more) old) j 0
      byte_behind less l =
          let at : (i : ℕ) → 8 * j < i → i ≤ 8 * j + 8 → bit_at after i ≡ bit_at before i = λ i low high.
          adds i (omega arith) (omega (arith, long)) ∙ ap (λ c. c || bit_at before i) (none i (omega arith)) in
          value_only (bit_at before) (8 * j) 8 _ (held_same _ _ (8 * j) 8 _ at (byte_held after j small)) ∙ sym (value_only (bit_at before) (8 * j) 8 _ (byte_held before j less))
          ∙ ap (λ bs. get_or bs j 0) e ∙ over_behind f j l ∙ sym (over_behind more j l)

    pub over_adds : length after ≡ length before → ((j : ℕ) → get_or after j 0 < 256) → ((j : ℕ) → get_or before j 0 < 256) → after ≡ over (pack n more) old
    over_adds same small less = ext_get_or 0 _ _ (same ∙ long ∙ sym (over_long more)) (λ j l.
        let within : j < length old = omega (arith, same, long) in
        ⊎_elim (byte_front j within (small j)) (byte_behind j within (small j) (less j)) (cases_lt j (bytes_for n)))
