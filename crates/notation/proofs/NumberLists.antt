-- A list of numbers that is read piece by piece, and written number by number.
use Rattle.std.proofs.Common.{◌≡◌, ◌<◌, ◌≤◌, ◌+◌, ℕ, zero, suc, true, false, List, [], ◌∷◌, ◌++◌, length, get_or, map, take, refl, sym, ap, ◌∙◌, arith}
use Rattle.std.specs.Prelude.{◌==◌, codes, decimal, Option, Some, None}
use Rattle.std.specs.List.{join_with_byte, slice_split}
use Rattle.std.specs.Option.{option_map}
use Rattle.std.proofs.lemmas.Bool.{and_parts, leb-true}
use Rattle.std.proofs.lemmas.List.{append_assoc, get_or-map, length-map, length-take, map_push, take_more}
use Rattle.std.proofs.lemmas.Option.{cond_some}
use Rattle.notation.specs.Numbers.{all_there, is_dash, number_of, numbers_of, numbers_text, worth}

-- what reading makes of each kind of word
pub numbers_of-dash : (word : List ℕ) → is_dash word ≡ true → numbers_of word ≡ Some []
unfolding numbers_of
numbers_of-dash word dash = rw dash refl

pub numbers_of-pieces : (word : List ℕ) → is_dash word ≡ false
    → numbers_of word ≡ all_there (map (number_of 65535) (slice_split (λ c. c == 44) word))
unfolding numbers_of
numbers_of-pieces word other = rw other refl

-- a number that is read is worth no more than it may
pub number_of-le : (most : ℕ) (word : List ℕ) (n : ℕ) → number_of most word ≡ Some n → n ≤ most
unfolding number_of
number_of-le most word n h =
    let parts = cond_some _ _ _ h in
    let more = and_parts _ _ parts.0 in
    rw (← parts.1) (leb-true (worth word) most (and_parts _ _ more.1).1)

-- a number at the front and one at the end can be put in either order
option_map-ends : (m n : ℕ) (ns : Option (List ℕ))
    → option_map (λ all. m ∷ all) (option_map (λ all. all ++ n ∷ []) ns) ≡ option_map (λ all. all ++ n ∷ []) (option_map (λ all. m ∷ all) ns)
option_map-ends m n None = refl
option_map-ends m n (Some ns) = refl

-- one number more
all_there-push : (read : List (Option ℕ)) (n : ℕ) → all_there (read ++ Some n ∷ []) ≡ option_map (λ all. all ++ n ∷ []) (all_there read)
all_there-push [] n = refl
all_there-push (None ∷ read) n = refl
all_there-push (Some m ∷ read) n = ap (option_map (λ all. m ∷ all)) (all_there-push read n) ∙ option_map-ends m n (all_there read)

-- a piece that is no number
all_there-missing : (read : List (Option ℕ)) (i : ℕ) → i < length read → get_or read i None ≡ None → all_there read ≡ None
all_there-missing [] i within h = absurd (omega arith)
all_there-missing (None ∷ read) i within h = refl
all_there-missing (Some m ∷ read) zero within h = cc h
all_there-missing (Some m ∷ read) (suc i) within h = rw (all_there-missing read i (omega arith) h) refl

pub all_there-more : (pieces : List (List ℕ)) (i : ℕ) (piece : List ℕ) (ns : List ℕ) (n : ℕ) → i < length pieces
    → piece ≡ get_or pieces i piece → number_of 65535 piece ≡ Some n
    → all_there (map (number_of 65535) (take i pieces)) ≡ Some ns
    → all_there (map (number_of 65535) (take (i + 1) pieces)) ≡ Some (ns ++ n ∷ [])
all_there-more pieces i piece ns n within is read so_far =
    ap (λ some. all_there (map (number_of 65535) some)) (take_more pieces i piece within)
    ∙ ap all_there (map_push (number_of 65535) (take i pieces) (get_or pieces i piece))
    ∙ rw (← is, read) (all_there-push (map (number_of 65535) (take i pieces)) n ∙ ap (option_map (λ all. all ++ n ∷ [])) so_far)

pub all_there-none : (pieces : List (List ℕ)) (i : ℕ) (piece : List ℕ) → i < length pieces
    → piece ≡ get_or pieces i piece → number_of 65535 piece ≡ None
    → all_there (map (number_of 65535) pieces) ≡ None
all_there-none pieces i piece within is read =
    all_there-missing (map (number_of 65535) pieces) i (rw (length-map pieces (number_of 65535)) within)
    (get_or-map (number_of 65535) pieces i piece None within ∙ ap (number_of 65535) (sym is) ∙ read)

-- what is written of none
pub numbers_text-none : (ns : List ℕ) → length ns ≡ 0 → numbers_text ns ≡ codes "-"
unfolding numbers_text
numbers_text-none [] none = refl
numbers_text-none (n ∷ ns) none = absurd (omega arith)

-- of one
pub numbers_text-one : (ns : List ℕ) → 0 < length ns → numbers_text (take 1 ns) ≡ decimal (get_or ns 0 0)
unfolding numbers_text
numbers_text-one [] some = absurd (omega arith)
numbers_text-one (n ∷ ns) some = refl

-- and of one more
join-push : (piece : List ℕ) (pieces : List (List ℕ)) (last : List ℕ)
    → join_with_byte 44 ((piece ∷ pieces) ++ last ∷ []) ≡ join_with_byte 44 (piece ∷ pieces) ++ 44 ∷ last
join-push piece [] last = refl
join-push piece (next ∷ pieces) last =
    ap (λ more. piece ++ 44 ∷ more) (join-push next pieces last)
    ∙ sym (append_assoc piece (44 ∷ join_with_byte 44 (next ∷ pieces)) (44 ∷ last))

numbers_text-push : (ns : List ℕ) (n : ℕ) → 0 < length ns → numbers_text (ns ++ n ∷ []) ≡ numbers_text ns ++ 44 ∷ decimal n
unfolding numbers_text
numbers_text-push [] n some = absurd (omega arith)
numbers_text-push (m ∷ ns) n some =
    ap (join_with_byte 44) (map_push decimal (m ∷ ns) n) ∙ join-push (decimal m) (map decimal ns) (decimal n)

pub numbers_text-more : (ns : List ℕ) (i : ℕ) → 0 < i → i < length ns
    → numbers_text (take (i + 1) ns) ≡ numbers_text (take i ns) ++ 44 ∷ decimal (get_or ns i 0)
numbers_text-more ns i some within =
    ap numbers_text (take_more ns i 0 within)
    ∙ numbers_text-push (take i ns) (get_or ns i 0) (omega (arith, length-take i ns))
