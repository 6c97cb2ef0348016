-- A number is read from its decimal digits, with any zeros in front.
use Rattle.std.proofs.Common.{◌≡◌, ◌<◌, ◌≤◌, ◌^◌, ℕ, zero, suc, true, List, [], ◌∷◌, ◌++◌, length, replicate, refl, sym, ap, ◌∙◌, arith, inl, inr, zero-add}
use Rattle.std.specs.Prelude.{decimal, Some}
use Rattle.std.specs.Char.{is_ascii_digit}
use Rattle.std.specs.List.{list_all}
use Rattle.std.proofs.Math.Nat.{zero-mul}
use Rattle.std.proofs.lemmas.Bool.{and_parts, cases_eq, leb-true, lt-ltb, ltb-true}
use Rattle.std.proofs.lemmas.Fmt.{decimal-digits_value, decimal_nonempty}
use Rattle.std.proofs.lemmas.List.{length-append}
use Rattle.std.proofs.lemmas.Option.{cond_some}
use Rattle.notation.specs.Numbers.{number_of, worth}
use Rattle.notation.proofs.Numerals.{numerals}
use Rattle.notation.proofs.NumberTexts.{number_of-decimal}

-- a zero in front is worth nothing
worth-zero : (word : List ℕ) → worth (48 ∷ word) ≡ worth word
worth-zero word = rw (zero-mul (10 ^ length word), zero-add) refl

-- so it does not change what is read
number_of-zero : (most : ℕ) (word : List ℕ) → 0 < length word → number_of most (48 ∷ word) ≡ number_of most word
unfolding number_of
number_of-zero most word some = rw (worth-zero word, lt-ltb 0 (length word) some, lt-ltb 0 (suc (length word)) (omega arith)) refl

pub number_of-zeros : (most zeros n : ℕ) → most < 2 ^ 32 → n ≤ most → number_of most (replicate zeros 48 ++ decimal n) ≡ Some n
number_of-zeros most zero n small low = number_of-decimal most n small low
number_of-zeros most (suc zeros) n small low =
    let digits : 0 < length (decimal n) = decimal_nonempty n (omega arith) in
    number_of-zero most (replicate zeros 48 ++ decimal n) (omega (arith, length-append (replicate zeros 48) (decimal n)))
    ∙ number_of-zeros most zeros n small low

-- digits are zeros, and then what is written of the number
zeros-front : (word : List ℕ) → 0 < length word → list_all is_ascii_digit word ≡ true → worth word < 2 ^ 64
    → (zeros : ℕ) × (word ≡ replicate zeros 48 ++ decimal (worth word))
zeros-front [] some digits low = absurd (omega arith)
zeros-front (c ∷ []) some digits low = (0, sym (decimal-digits_value numerals (c ∷ []) digits some (λ _. refl) low))
zeros-front (c ∷ d ∷ word) some digits low =
    elim (cases_eq c 48) [
      | inl nought ↦
          let same : worth (c ∷ d ∷ word) ≡ worth (d ∷ word) = rw nought (worth-zero (d ∷ word)) in
          let behind = zeros-front (d ∷ word) (omega arith) (and_parts _ _ digits).1 (rw (← same) low) in (
            suc behind.0,
            ap (λ first. first ∷ d ∷ word) nought ∙ ap (λ more. 48 ∷ more) behind.1
                ∙ ap (λ n. 48 ∷ (replicate behind.0 48 ++ decimal n)) (sym same),
          )
      | inr other ↦ (0, sym (decimal-digits_value numerals (c ∷ d ∷ word) digits some (λ h. absurd (other h)) low))
    ]

pub zeros-from_number_of : (most n : ℕ) (word : List ℕ) → most < 2 ^ 32 → number_of most word ≡ Some n
    → (n ≤ most) × ((zeros : ℕ) × (word ≡ replicate zeros 48 ++ decimal n))
unfolding number_of
zeros-from_number_of most n word small h =
    let read = cond_some _ _ _ h in
    let outer = and_parts _ _ read.0 in
    let inner = and_parts _ _ outer.1 in
    let low : worth word ≤ most = leb-true (worth word) most inner.1 in
    rw (← read.1) (low, zeros-front word (ltb-true 0 (length word) outer.0) inner.0 (omega arith))
