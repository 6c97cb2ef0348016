-- One step of a chain behind the other, in two memories.
use Rattle.std.proofs.Common.{◌≡◌, ℕ, zero, suc, ◌+◌, ◌-◌, ◌<◌, ◌≤◌, Bool, List, [], ◌∷◌, ◌++◌, length, take, drop, get_or, Some, None, Option, refl, sym, ap, subst, ◌∙◌, arith, append_assoc, length-append, length-take, length-drop, drop-drop, take-append-drop}
use Rattle.std.specs.List.{flat_map}
use Rattle.std.proofs.Math.Seq.{take-append_seam, drop-append_seam}
use Rattle.std.proofs.lemmas.Grind.{flat_map-append}
use Rattle.std.proofs.lemmas.List.{append-nil, drop-take, take-append-le, drop-append-le, take_more}
use Rattle.std.proofs.lemmas.List.Folds.{length-flat_map-take}
use Rattle.sets.specs.Lists.{Each, over}
use Rattle.forms.specs.Choices.{SizeFits}
use Rattle.forms.specs.Laying.{bytes_of, numbers_of}
use Rattle.forms.specs.Telling.{told_of, bytes_told, numbers_told}
use Rattle.forms.specs.declared.choice.Choice.{Choice}
use Rattle.forms.specs.declared.choice.Choice.TheVariants.{Plain}
use Rattle.forms.proofs.Laid.{told_bytes, told_numbers}
use Rattle.chains.specs.Laid.{laid_bytes, laid_numbers, over_at, LastIs, place_behind, Has, LiesIn}
use Rattle.chains.specs.declared.extent.Extent.{Extent}
use Rattle.chains.specs.declared.place.Last.{Last}

pub each_at : {A : Type 0} (P : A → Type 0) (xs : List A) (i : ℕ) (d : A) → Each P xs → i < length xs → P (get_or xs i d)
each_at P [] i d each within = absurd (omega arith)
each_at P (x ∷ xs) zero d each within = each.0
each_at P (x ∷ xs) (suc i) d each within = each_at P xs i d each.1 (omega arith)

take_take : (n k : ℕ) (xs : List ℕ) → n ≤ k → take n (take k xs) ≡ take n xs
take_take zero k xs le = refl
take_take (suc n) zero xs le = absurd (omega arith)
take_take (suc n) (suc k) [] le = refl
take_take (suc n) (suc k) (x ∷ xs) le = ap (λ front. x ∷ front) (take_take n k xs (omega arith))

-- a part that ends before a place stands in the memory up to there, and in all that begins so
has_front : (memory : List ℕ) (at : ℕ) (part : List ℕ) (end : ℕ) → at + length part ≤ end → Has memory at part → Has (take end memory) at part
has_front memory at part end before has =
    let k = end - at in
    let cut : take end memory ≡ take (at + k) memory = ap (λ n. take n memory) (omega arith) in
    let all : drop at (take end memory) ≡ take k (drop at memory) = ap (drop at) cut ∙ drop-take at k memory in
    (omega (arith, length-take end memory, has.0), ap (take (length part)) all ∙ take_take (length part) k (drop at memory) (omega arith) ∙ has.1)

has_more : (memory more : List ℕ) (at : ℕ) (part : List ℕ) → Has memory at part → Has (memory ++ more) at part
has_more memory more at part has = (
  omega (arith, length-append memory more, has.0),
  ap (take (length part)) (drop-append-le at memory more (omega (arith, has.0)))
      ∙ take-append-le (length part) (drop at memory) more (omega (arith, length-drop at memory, has.0))
      ∙ has.1,
)

-- a part that is written at a place stands there
has_written : (part memory : List ℕ) (at : ℕ) → at + length part ≤ length memory → Has (over_at at part memory) at part
has_written part memory at within =
    let front = take at memory in
    let long : length front ≡ at = length-take at memory ∙ omega arith in
    let behind = drop (length part) (drop at memory) in
    let size : length (over_at at part memory) ≡ length front + (length part + length behind) =
    length-append front (over part (drop at memory)) ∙ ap (λ n. length front + n) (length-append part behind) in (
      omega arith,
      ap (λ n. take (length part) (drop n (over_at at part memory))) (sym long)
          ∙ ap (take (length part)) (drop-append_seam front (over part (drop at memory)))
          ∙ take-append_seam part behind,
    )

has_at : (part memory after : List ℕ) (at place : ℕ) → place ≡ at → at + length part ≤ length memory → after ≡ over_at at part memory → Has after place part
has_at part memory after at place same within wrote =
    subst (λ n. Has after n part) (sym same) (subst (λ m. Has m at part) (sym wrote) (has_written part memory at within))

-- what is written behind a part, where it stands
pub over_more : (at : ℕ) (front part memory : List ℕ) → at ≤ length memory → over_at (at + length front) part (over_at at front memory) ≡ over_at at (front ++ part) memory
over_more at front part memory within =
    let head = take at memory in
    let rest = drop at memory in
    let behind = drop (length front) rest in
    let long : length (head ++ front) ≡ at + length front = length-append head front ∙ ap (λ n. n + length front) (length-take at memory ∙ omega arith) in
    ap (λ m. over_at (at + length front) part m) (sym (append_assoc head front behind))
    ∙ ap (λ n. over_at n part ((head ++ front) ++ behind)) (sym long)
    ∙ (λ i. take-append_seam (head ++ front) behind i ++ over part (drop-append_seam (head ++ front) behind i))
    ∙ append_assoc head front (over part behind)
    ∙ ap (λ m. head ++ m) (sym (append_assoc front part (drop (length part) behind)))
    ∙ ap (λ m. head ++ ((front ++ part) ++ m)) (drop-drop (length part) (length front) rest ∙ ap (λ n. drop n rest) (sym (length-append front part)))

-- nothing was laid before the first step
pub over_none : (at : ℕ) (memory : List ℕ) → memory ≡ over_at at [] memory
over_none at memory = sym (take-append-drop at memory)

-- the last index lies before the place behind it
pub lies_before : (last : Option Last) (start : Extent) (s : List Bool) (bytes numbers : List ℕ) → LiesIn last s bytes numbers
    → LiesIn last s (take (place_behind last start).bytes bytes) (take (place_behind last start).numbers numbers)
lies_before None start s bytes numbers lies = tt
lies_before (Some l) start s bytes numbers lies =
    let x = lies.0 in (
      x,
      lies.1,
      lies.2,
      has_front bytes l.bytes_at (bytes_of x s) (l.bytes_at + bytes_told l.told) (omega (arith, ap bytes_told lies.2, told_bytes x s)) lies.3,
      has_front numbers l.numbers_at (numbers_of x s) (l.numbers_at + numbers_told l.told) (omega (arith, ap numbers_told lies.2, told_numbers x s)) lies.4,
    )

-- and still lies there when something is written from that place on
pub lies_still : (last : Option Last) (start : Extent) (s : List Bool) (bytes numbers new_bytes new_numbers part number_part : List ℕ) → LiesIn last s bytes numbers
    → new_bytes ≡ over_at (place_behind last start).bytes part bytes → new_numbers ≡ over_at (place_behind last start).numbers number_part numbers
    → LiesIn last s new_bytes new_numbers
lies_still None start s bytes numbers new_bytes new_numbers part number_part lies wrote_bytes wrote_numbers = tt
lies_still (Some l) start s bytes numbers new_bytes new_numbers part number_part lies wrote_bytes wrote_numbers =
    let before = lies_before (Some l) start s bytes numbers lies in (
      before.0,
      before.1,
      before.2,
      subst (λ m. Has m l.bytes_at (bytes_of before.0 s)) (sym wrote_bytes) (has_more _ _ l.bytes_at (bytes_of before.0 s) before.3),
      subst (λ m. Has m l.numbers_at (numbers_of before.0 s)) (sym wrote_numbers) (has_more _ _ l.numbers_at (numbers_of before.0 s) before.4),
    )

laid_more : (f : Choice → List ℕ) (before : List Choice) (x : Choice) → flat_map f (before ++ (x ∷ [])) ≡ flat_map f before ++ f x
laid_more f before x = flat_map-append f before (x ∷ []) ∙ ap (λ p. flat_map f before ++ p) (append-nil (f x))

laid_length : (f : Choice → List ℕ) (choices before : List Choice) (x : Choice) → choices ≡ before ++ (x ∷ []) → length (flat_map f choices) ≡ length (flat_map f before) + length (f x)
laid_length f choices before x is = ap (λ xs. length (flat_map f xs)) is ∙ ap length (laid_more f before x) ∙ length-append (flat_map f before) (f x)

-- the place behind the last index is the place behind all that was laid
pub place_is : (start : Extent) (choices : List Choice) (s : List Bool) (last : Option Last) → LastIs start choices s last
    → ((place_behind last start).bytes ≡ start.bytes + length (laid_bytes choices s)) × ((place_behind last start).numbers ≡ start.numbers + length (laid_numbers choices s))
place_is start choices s None is =
    let bytes = ap (λ xs. length (laid_bytes xs s)) is in
    let numbers = ap (λ xs. length (laid_numbers xs s)) is in
    (omega arith, omega arith)
place_is start choices s (Some l) is =
    let x = is.1 in (
      omega (arith, is.4, ap bytes_told is.3, told_bytes x s, laid_length (λ x. bytes_of x s) choices is.0 x is.2),
      omega (arith, is.5, ap numbers_told is.3, told_numbers x s, laid_length (λ x. numbers_of x s) choices is.0 x is.2),
    )

-- one more step
module _ (start : Extent) (choices : List Choice) (s : List Bool) (i : ℕ) (within : i < length choices) (last : Option Last) (is : LastIs start (take i choices) s last) where
  abbrev x : Choice
  x = get_or choices i Plain

  abbrev place : Extent
  place = place_behind last start

  places : (place.bytes ≡ start.bytes + length (laid_bytes (take i choices) s)) × (place.numbers ≡ start.numbers + length (laid_numbers (take i choices) s))
  places = place_is start (take i choices) s last is

  -- there is room for it
  pub bytes_room : (memory : List ℕ) → start.bytes + length (laid_bytes choices s) ≤ length memory → place.bytes + length (bytes_of x s) ≤ length memory
  bytes_room memory fits = omega (arith, places.0, length-flat_map-take (λ x. bytes_of x s) choices i Plain within)

  pub numbers_room : (memory : List ℕ) → start.numbers + length (laid_numbers choices s) ≤ length memory → place.numbers + length (numbers_of x s) ≤ length memory
  numbers_room memory fits = omega (arith, places.1, length-flat_map-take (λ x. numbers_of x s) choices i Plain within)

  -- it is the last then
  pub last_more : (l : Last) → l ≡ record { told = told_of x s; bytes_at = place.bytes; numbers_at = place.numbers } → LastIs start (take (i + 1) choices) s (Some l)
  last_more l is =
      (take i choices, x, take_more choices i Plain within, ap (λ l. l.told) is, ap (λ l. l.bytes_at) is ∙ places.0, ap (λ l. l.numbers_at) is ∙ places.1)

  -- the memories have it behind the others
  written_more : (f : Choice → List ℕ) (at next : ℕ) (memory before after : List ℕ) → at ≤ length memory → next ≡ at + length (flat_map f (take i choices))
      → before ≡ over_at at (flat_map f (take i choices)) memory → after ≡ over_at next (f x) before → after ≡ over_at at (flat_map f (take (i + 1) choices)) memory
  written_more f at next memory before after fits placed laid wrote =
      wrote
      ∙ (λ j. over_at (placed j) (f x) (laid j))
      ∙ over_more at (flat_map f (take i choices)) (f x) memory fits
      ∙ ap (λ p. over_at at p memory) (sym (laid_more f (take i choices) x) ∙ ap (flat_map f) (sym (take_more choices i Plain within)))

  pub bytes_more : (memory before after : List ℕ) → start.bytes + length (laid_bytes choices s) ≤ length memory
      → before ≡ over_at start.bytes (laid_bytes (take i choices) s) memory → after ≡ over_at place.bytes (bytes_of x s) before
      → after ≡ over_at start.bytes (laid_bytes (take (i + 1) choices) s) memory
  bytes_more memory before after fits laid wrote = written_more (λ x. bytes_of x s) start.bytes place.bytes memory before after (omega arith) places.0 laid wrote

  pub numbers_more : (memory before after : List ℕ) → start.numbers + length (laid_numbers choices s) ≤ length memory
      → before ≡ over_at start.numbers (laid_numbers (take i choices) s) memory → after ≡ over_at place.numbers (numbers_of x s) before
      → after ≡ over_at start.numbers (laid_numbers (take (i + 1) choices) s) memory
  numbers_more memory before after fits laid wrote = written_more (λ x. numbers_of x s) start.numbers place.numbers memory before after (omega arith) places.1 laid wrote

  -- and its index lies in them
  pub lies_more : Each SizeFits choices → (l : Last) → l ≡ record { told = told_of x s; bytes_at = place.bytes; numbers_at = place.numbers }
      → (bytes numbers new_bytes new_numbers : List ℕ) → place.bytes + length (bytes_of x s) ≤ length bytes → place.numbers + length (numbers_of x s) ≤ length numbers
      → new_bytes ≡ over_at place.bytes (bytes_of x s) bytes → new_numbers ≡ over_at place.numbers (numbers_of x s) numbers → LiesIn (Some l) s new_bytes new_numbers
  lies_more sizes l is bytes numbers new_bytes new_numbers fits_bytes fits_numbers wrote_bytes wrote_numbers = (
    x,
    each_at SizeFits choices i Plain sizes within,
    ap (λ l. l.told) is,
    has_at (bytes_of x s) bytes new_bytes place.bytes l.bytes_at (ap (λ l. l.bytes_at) is) fits_bytes wrote_bytes,
    has_at (numbers_of x s) numbers new_numbers place.numbers l.numbers_at (ap (λ l. l.numbers_at) is) fits_numbers wrote_numbers,
  )
