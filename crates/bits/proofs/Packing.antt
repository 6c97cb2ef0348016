-- The bytes of a bitvector obey their law, and no others do.
use Rattle.std.proofs.Common.{◌≡◌, ℕ, zero, suc, ◌+◌, ◌-◌, ◌*◌, ◌/◌, ◌%◌, ◌<◌, ◌≤◌, Bool, false, ◌&&◌, List, [], ◌∷◌, length, get_or, sym, refl, ap, ◌∙◌, subst, ⊎_elim, arith, mod-lt}
use Rattle.std.proofs.lemmas.Bool.{cases_lt, le-leb, lt-leb, and_left}
use Rattle.std.proofs.lemmas.List.{ext_get_or}
use Rattle.sets.specs.Lists.{Each}
use Rattle.bits.specs.Bits.{bit_at}
use Rattle.sets.specs.Packing.{bytes_for, pack}
use Rattle.bits.specs.Words.{digit, Holds}
use Rattle.bits.specs.Checks.{Whole, Clear}
use Rattle.bits.specs.Packing.{Bytes, Packs}
use Rattle.sets.proofs.Packing.{bit, pack_length, pack_byte}
use Rattle.bits.proofs.Bytes.{bit_at_lem, bit_past}
use Rattle.bits.proofs.Values.{value_holds, value_only, held_same}

pub each_from : (P : ℕ → Type 0) (xs : List ℕ) → ((j : ℕ) → j < length xs → P (get_or xs j 0)) → Each P xs
each_from P [] h = tt
each_from P (x ∷ xs) h = (h 0 (omega arith), each_from P xs (λ j l. h (suc j) (omega arith)))

each_at : (P : ℕ → Type 0) (xs : List ℕ) (j : ℕ) → Each P xs → j < length xs → P (get_or xs j 0)
each_at P [] j h l = absurd (omega arith)
each_at P (x ∷ xs) zero h l = h.0
each_at P (x ∷ xs) (suc j) h l = each_at P xs j h.1 (omega arith)

module _ (n : ℕ) (f : ℕ → Bool) where
  pub pack_bit : (i : ℕ) → 1 ≤ i → i ≤ 8 * bytes_for n → bit_at (pack n f) i ≡ bit n f i
  pack_bit i one within =
      let j = (i - 1) / 8 in
      let s = (i - 1) % 8 in
      let low : s < 8 = mod-lt (i - 1) (omega arith) in
      let same : suc (8 * j + s) ≡ i = omega arith in
      sym (ap (bit_at (pack n f)) same) ∙ bit_at_lem (pack n f) j s low ∙ ap (λ x. digit x s) (pack_byte n f j (omega arith))
      ∙ sym ((value_holds (bit n f) (8 * j) 8).place s low) ∙ ap (bit n f) same

  inside : (i : ℕ) → i ≤ n → bit n f i ≡ f i
  inside i l = ap (λ b. b && f i) (le-leb i n l)

  behind : (i : ℕ) → n < i → bit n f i ≡ false
  behind i l = and_left _ _ (lt-leb i n l)

  pub packs : Packs n f (pack n f)
  packs = (
    pack_length n f,
    λ i l. ⊎_elim (λ past. bit_past (pack n f) i (omega (arith, pack_length n f))) (λ within. pack_bit i (omega arith) within ∙ behind i l) (cases_lt (8 * bytes_for n) i),
    each_from (λ b. b < 256) (pack n f) (λ j l. subst (λ b. b < 256) (sym (pack_byte n f j (omega (arith, pack_length n f)))) (value_holds (bit n f) (8 * j) 8).small),
    λ i one l. pack_bit i one (omega arith) ∙ inside i l,
  )

  pub packs_only : (bytes : List ℕ) → Packs n f bytes → bytes ≡ pack n f
  packs_only bytes h =
      let same : (i : ℕ) → 1 ≤ i → bit_at bytes i ≡ bit n f i = λ i one. ⊎_elim (λ past. h.1 i past ∙ sym (behind i past)) (λ l. h.3 i one l ∙ sym (inside i l)) (cases_lt n i) in
      ext_get_or 0 bytes (pack n f) (h.0 ∙ sym (pack_length n f)) (λ j l.
      let small : get_or bytes j 0 < 256 = each_at (λ b. b < 256) bytes j h.2 l in
      let byte : Holds (bit_at bytes) (8 * j) 8 (get_or bytes j 0) = record { small = small; place = λ s b. bit_at_lem bytes j s b } in
      value_only (bit n f) (8 * j) 8 _ (held_same (bit_at bytes) (bit n f) (8 * j) 8 _ (λ i low high. same i (omega arith)) byte) ∙ sym (pack_byte n f j (omega (arith, h.0))))

pub pack_same : (n : ℕ) (f g : ℕ → Bool) → ((i : ℕ) → 1 ≤ i → i ≤ n → f i ≡ g i) → pack n f ≡ pack n g
pack_same n f g same =
    let law = packs n f in
    packs_only n g (pack n f) (law.0, law.1, law.2, λ i one l. law.3 i one l ∙ same i one l)

pub pack_back : (n : ℕ) (bytes : List ℕ) → Whole n bytes → Clear n bytes → Bytes bytes → pack n (bit_at bytes) ≡ bytes
pack_back n bytes whole clear small = sym (packs_only n (bit_at bytes) bytes (whole, clear, small, λ i one l. refl))
