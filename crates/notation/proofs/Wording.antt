-- The words of a line that is made of others.
use Rattle.std.proofs.Common.{◌≡◌, ℕ, zero, suc, ◌+◌, ◌<◌, ◌≤◌, Bool, true, false, not, List, [], ◌∷◌, ◌++◌, length, take, drop, get_or, refl, sym, ap, ◌∙◌, arith, add-zero, inl, inr}
use Rattle.std.specs.Prelude.{filter, nat_lt, position}
use Rattle.std.specs.List.{All, onto_first, position_or_len, slice_split}
use Rattle.std.specs.Str.{IsTrimAsciiStart}
use Rattle.std.specs.Option.{unwrap_or}
use Rattle.std.proofs.lemmas.Bool.{cases_Bool, cases_lt, le-ltb, lt-ltb, ltb-true}
use Rattle.std.proofs.lemmas.List.Elements.{All-cons, All-filter, All-from_get_or, All-head, All-nil, All-tail, filter-append, filter_passes}
use Rattle.std.proofs.lemmas.List.{drop_all, drop_more, get_or-drop, get_or-take, length-take, length-take-le, nil_from_length, take_all}
use Rattle.std.proofs.lemmas.List.Sums.{fails_before_first, prefix_len-le-length, passes_at_first, split_at_first}
use Rattle.std.proofs.lemmas.List.Splits.{length-slice_split, slice_split-cons_no, slice_split-cons_yes, slice_split_none}
use Rattle.notation.specs.Words.{is_blank, spaced, words_of, IsWord}

-- an element that goes onto the first of some parts leaves those behind as they are
onto_first-append : {X : Type 0} (x : X) (parts more : List (List X)) → 0 < length parts
    → onto_first x (parts ++ more) ≡ onto_first x parts ++ more
onto_first-append x [] more h = absurd (omega arith)
onto_first-append x (part ∷ parts) more h = refl

-- the parts of a list that is cut at one of its elements
pub slice_split-append : {X : Type 0} (p : X → Bool) (front : List X) (c : X) (rest : List X) → p c ≡ true
    → slice_split p (front ++ c ∷ rest) ≡ slice_split p front ++ slice_split p rest
slice_split-append p [] c rest h = slice_split-cons_yes p c rest h
slice_split-append p (x ∷ front) c rest h =
    let more = slice_split-append p front c rest h in
    let some : 0 < length (slice_split p front) = omega (arith, length-slice_split p front) in
    elim (cases_Bool (p x)) [
      | inl here ↦ slice_split-cons_yes p x (front ++ c ∷ rest) here ∙ ap (λ parts. [] ∷ parts) more
          ∙ ap (λ parts. parts ++ slice_split p rest) (sym (slice_split-cons_yes p x front here))
      | inr not_here ↦ slice_split-cons_no p x (front ++ c ∷ rest) not_here ∙ ap (onto_first x) more
          ∙ onto_first-append x (slice_split p front) (slice_split p rest) some
          ∙ ap (λ parts. parts ++ slice_split p rest) (sym (slice_split-cons_no p x front not_here))
    ]

-- nothing has no words
pub words_of-nil : words_of [] ≡ []
unfolding words_of
words_of-nil = refl

-- a word is its one word
pub words_of-word : (word : List ℕ) → IsWord word → words_of word ≡ word ∷ []
unfolding words_of
words_of-word word h = rw (slice_split_none is_blank word h.unbroken, lt-ltb 0 (length word) h.some) refl

-- a line that is cut at a blank has the words before it, and then those behind it
pub words_of-cut : (front : List ℕ) (c : ℕ) (rest : List ℕ) → is_blank c ≡ true
    → words_of (front ++ c ∷ rest) ≡ words_of front ++ words_of rest
unfolding words_of
words_of-cut front c rest h =
    ap (filter (λ piece. nat_lt 0 (length piece))) (slice_split-append is_blank front c rest h)
    ∙ filter-append (λ piece. nat_lt 0 (length piece)) (slice_split is_blank front) (slice_split is_blank rest)

-- a blank in front is no word
pub words_of-blank : (c : ℕ) (rest : List ℕ) → is_blank c ≡ true → words_of (c ∷ rest) ≡ words_of rest
words_of-blank c rest h = words_of-cut [] c rest h ∙ ap (λ words. words ++ words_of rest) words_of-nil

-- a word and a blank
pub words_of-next : (word : List ℕ) (c : ℕ) (rest : List ℕ) → IsWord word → is_blank c ≡ true
    → words_of (word ++ c ∷ rest) ≡ word ∷ words_of rest
words_of-next word c rest h blank = words_of-cut word c rest blank ∙ ap (λ words. words ++ words_of rest) (words_of-word word h)

-- words with a space between each two
pub words_of-spaced : (words : List (List ℕ)) → All IsWord words → words_of (spaced words) ≡ words
unfolding spaced
words_of-spaced [] h = words_of-nil
words_of-spaced (word ∷ []) h = words_of-word word (All-head IsWord word [] h)
words_of-spaced (word ∷ next ∷ words) h =
    words_of-next word 32 (spaced (next ∷ words)) (All-head IsWord word (next ∷ words) h) refl
    ∙ ap (λ more. word ∷ more) (words_of-spaced (next ∷ words) (All-tail IsWord word (next ∷ words) h))

-- a piece without a blank
abbrev Unbroken : List ℕ → Type 0
Unbroken piece = All (λ c. is_blank c ≡ false) piece

-- an unblank element on the first of some pieces
All-onto_first : (c : ℕ) (pieces : List (List ℕ)) → is_blank c ≡ false → All Unbroken pieces → All Unbroken (onto_first c pieces)
All-onto_first c [] unblank h =
    All-cons Unbroken (c ∷ []) [] (All-cons (λ b. is_blank b ≡ false) c [] unblank (All-nil (λ b. is_blank b ≡ false))) (All-nil Unbroken)
All-onto_first c (piece ∷ pieces) unblank h =
    All-cons Unbroken (c ∷ piece) pieces (All-cons (λ b. is_blank b ≡ false) c piece unblank (All-head Unbroken piece pieces h))
    (All-tail Unbroken piece pieces h)

-- no piece between blanks has a blank
All-slice_split : (line : List ℕ) → All Unbroken (slice_split is_blank line)
All-slice_split [] = All-cons Unbroken [] [] (All-nil (λ b. is_blank b ≡ false)) (All-nil Unbroken)
All-slice_split (c ∷ line) =
    elim (cases_Bool (is_blank c)) [
      | inl here ↦ rw (slice_split-cons_yes is_blank c line here)
          (All-cons Unbroken [] (slice_split is_blank line) (All-nil (λ b. is_blank b ≡ false)) (All-slice_split line))
      | inr not_here ↦ rw (slice_split-cons_no is_blank c line not_here) (All-onto_first c (slice_split is_blank line) not_here (All-slice_split line))
    ]

-- the words of a line are words
pub IsWord-words_of : (line : List ℕ) → All IsWord (words_of line)
unfolding words_of
IsWord-words_of line k d h = record {
  some = ltb-true 0 _ (filter_passes (λ piece. nat_lt 0 (length piece)) (slice_split is_blank line) k d h);
  unbroken = All-filter (λ piece. nat_lt 0 (length piece)) Unbroken (slice_split is_blank line) (All-slice_split line) k d h;
}

-- the words of a line do not change where blanks are taken off its front
pub words_of-drop : (line : List ℕ) (n : ℕ) → ((k : ℕ) → k < n → is_blank (get_or line k 0) ≡ true) → n ≤ length line
    → words_of (drop n line) ≡ words_of line
words_of-drop line zero h le = refl
words_of-drop [] (suc n) h le = refl
words_of-drop (c ∷ line) (suc n) h le =
    words_of-drop line n (λ k lt. h (suc k) (omega arith)) (omega arith) ∙ sym (words_of-blank c line (h 0 (omega arith)))

-- the place of the first blank is found by looking for it
pub unwrap_or-position : (line : List ℕ) → unwrap_or (position is_blank line) (length line) ≡ position_or_len is_blank line
unwrap_or-position line =
    elim (cases_lt (position_or_len is_blank line) (length line)) [
      | inl cut ↦ rw lt-ltb refl
      | inr whole ↦ rw le-ltb (omega (arith, prefix_len-le-length (λ c. not (is_blank c)) line))
    ]

-- a word is in front of the first blank
position_or_len-ahead : (line : List ℕ) → 0 < length line → is_blank (get_or line 0 0) ≡ false → 0 < position_or_len is_blank line
position_or_len-ahead [] some front = some
position_or_len-ahead (c ∷ line) some front = rw front (omega arith)

-- the first word of a line that begins with one, and the others
pub words_of-first : (line : List ℕ) → 0 < length line → is_blank (get_or line 0 0) ≡ false
    → words_of line ≡ take (position_or_len is_blank line) line ∷ words_of (drop (position_or_len is_blank line) line)
words_of-first line some front =
    let n = position_or_len is_blank line in
    let within : n ≤ length line = prefix_len-le-length (λ c. not (is_blank c)) line in
    let ahead : 0 < n = position_or_len-ahead line some front in
    let word : IsWord (take n line) = record {
      some = omega (arith, length-take-le n line within);
      unbroken = All-from_get_or (λ c. is_blank c ≡ false) (take n line) 0
          (λ i lt. rw (get_or-take n line i 0 (omega (arith, length-take-le n line within)))
          (fails_before_first is_blank line i 0 (omega (arith, length-take-le n line within))));
    } in
    elim (cases_lt n (length line)) [
      | inl cut ↦ ap words_of (split_at_first is_blank line 0 cut)
          ∙ words_of-next (take n line) (get_or line n 0) (drop (n + 1) line) word (passes_at_first is_blank line 0 cut)
          ∙ ap (λ more. take n line ∷ more) (sym (words_of-blank (get_or line n 0) (drop (n + 1) line) (passes_at_first is_blank line 0 cut))
          ∙ ap words_of (sym (drop_more line n 0 cut)))
      | inr whole ↦ ap words_of (sym (take_all n line whole)) ∙ words_of-word (take n line) word
          ∙ ap (λ more. take n line ∷ more) (sym words_of-nil ∙ ap words_of (sym (drop_all n line whole)))
    ]

-- a line without the blanks at its front has the same words, and begins with none
trimmed : (line rest : List ℕ) → IsTrimAsciiStart line rest
    → (words_of line ≡ words_of rest) × (0 < length rest → is_blank (get_or rest 0 0) ≡ false)
trimmed line rest t = (
  sym (ap words_of t.1 ∙ words_of-drop line t.0 t.3 (omega (arith, t.2))),
  λ some. rw (t.1, get_or-drop t.0 line 0 0, add-zero) (t.4 (omega (arith, t.2))),
)

-- a line whose blanks at the front are taken off, and which is then cut at the first blank
pub record IsCut (line rest word more : List ℕ) : Type 0 where
  pub start : IsTrimAsciiStart line rest
  pub front : word ≡ take (position_or_len is_blank rest) rest
  pub back : more ≡ drop (position_or_len is_blank rest) rest

-- where nothing stands before the first blank, there is no word
pub words_of-none : {line rest word more : List ℕ} → IsCut line rest word more → length word ≡ 0 → (words_of line ≡ []) × (words_of more ≡ [])
words_of-none {line} {rest} {word} {more} cut none =
    let parts = trimmed line rest cut.start in
    let len : length rest ≡ 0 = elim (cases_lt 0 (length rest)) [
      | inl some ↦ absurd (omega (arith, position_or_len-ahead rest some (parts.1 some), length-take (position_or_len is_blank rest) rest, ap length cut.front))
      | inr empty ↦ omega arith
    ] in
    let empty : rest ≡ [] = nil_from_length rest len in
    (parts.0 ∙ ap words_of empty ∙ words_of-nil, rw (cut.back, empty) words_of-nil)

-- else that is the first word
pub words_of-some : {line rest word more : List ℕ} → IsCut line rest word more → 0 < length word → words_of line ≡ word ∷ words_of more
words_of-some {line} {rest} {word} {more} cut some =
    let parts = trimmed line rest cut.start in
    let long : 0 < length rest = omega (arith, length-take (position_or_len is_blank rest) rest, ap length cut.front) in
    rw (cut.front, cut.back) (parts.0 ∙ words_of-first rest long (parts.1 long))
