-- A command in a line, each word in the notation of answers: it is text, its words say the command, and so the command is read.
use Rattle.std.proofs.Common.{◌≡◌, ℕ, ◌<◌, ◌≤◌, ◌^◌, Bool, true, false, ◌&&◌, ltb, List, [], ◌∷◌, ◌++◌, length, map, Some, Ok, refl, arith, lit<}
use Rattle.std.specs.Prelude.{codes, decimal, nat_lt, not, ◌==◌}
use Rattle.std.specs.List.{All, AllByRecursion, join_with_byte, list_all}
use Rattle.std.specs.Str.{IsAscii, is_utf8}
use Rattle.std.proofs.lemmas.Bool.{le-ltb, not-true}
use Rattle.std.proofs.lemmas.Bool.Decides.{nat_tests}
use Rattle.std.proofs.lemmas.Fmt.{IsAscii-decimal}
use Rattle.std.proofs.lemmas.List.Elements.{All-cons, All-head, All-nil, All-tail}
use Rattle.std.proofs.lemmas.Str.{IsAscii-append, IsUtf8-from_ascii, is_utf8-from_IsUtf8}
use Rattle.std.proofs.lemmas.Str.Ascii.{IsAscii-cons, IsAscii-nil}
use Rattle.faults.specs.Texts.{form_name}
use Rattle.faults.specs.declared.fault.Form.{Form}
use Rattle.faults.specs.declared.fault.Form.TheVariants as forms
use Rattle.forms.specs.Choices.{form_of, by_width}
use Rattle.forms.specs.Opening.{fronts_told}
use Rattle.forms.specs.Telling.{choice_told, opening_numbers}
use Rattle.forms.specs.declared.choice.Choice.{Choice}
use Rattle.forms.specs.declared.choice.Choice.TheVariants as choices
use Rattle.forms.specs.declared.told.Told.{Told}
use Rattle.forms.specs.declared.told.Told.TheVariants as told
use Rattle.sets.specs.declared.Sort.{Sort}
use Rattle.sets.specs.declared.Sort.TheVariants as sorts
use Rattle.replay.specs.declared.calls.Call.{Call}
use Rattle.replay.specs.declared.calls.Call.TheVariants as calls
use Rattle.hex.specs.Hex.{lower_digits}
use Rattle.hex.proofs.HexLemmas.{IsAscii-encode_with}
use Rattle.notation.specs.Numbers.{numbers_text}
use Rattle.notation.specs.Parts.{bytes_text}
use Rattle.notation.specs.Words.{is_blank, spaced, words_of, IsWord}
use Rattle.notation.proofs.ByteTexts.{bytes_of-bytes_text, IsWord-bytes_text}
use Rattle.notation.proofs.NumberTexts.{number_of-decimal, numbers_of-numbers_text, IsWord-decimal, IsWord-numbers_text}
use Rattle.notation.proofs.Wording.{words_of-spaced}
use Rattle.commands.specs.declared.command.Question.{Question}
use Rattle.commands.specs.declared.command.Question.TheVariants as questions
use Rattle.commands.specs.declared.command.Slot.{Slot}
use Rattle.commands.specs.declared.command.Slot.TheVariants as slots
use Rattle.commands.specs.Lines.{is_comment, line_read}
use Rattle.commands.specs.Said as says
use Rattle.commands.specs.Said.{Said}
use Rattle.commands.specs.Sentences.{reading}
use Rattle.commands.specs.Writing.{Piece, Name, Number, Bytes, Numbers, piece_text, Says, SayAll, slot_text, sort_text, index_pieces, choice_pieces, question_pieces, call_pieces, pieces, said_text, IsWhole, PieceFits}
use Rattle.commands.proofs.Sayings.{reading_hears}

and_first : (a b : Bool) → (a && b) ≡ true → a ≡ true
and_first true b h = refl
and_first false b h = absurd cc

and_second : (a b : Bool) → (a && b) ≡ true → b ≡ true
and_second true b h = h
and_second false b h = absurd cc

-- ---- a piece is said by its text

says_text : (p : Piece) → PieceFits p → Says p (piece_text p)
says_text (Name text) fits = refl
says_text (Number n) fits = number_of-decimal 4294967295 n (lit< tt) (omega arith)
says_text (Bytes part) fits = bytes_of-bytes_text part fits
says_text (Numbers part) fits = numbers_of-numbers_text part fits

say_texts : (ps : List Piece) → All PieceFits ps → SayAll ps (map piece_text ps)
say_texts [] fits = refl
say_texts (p ∷ ps) fits = (says_text p (All-head PieceFits p ps fits), say_texts ps (All-tail PieceFits p ps fits))

-- ---- its text is ASCII, and one word

-- a test of texts that are written out
abbrev is_plain : ℕ → Bool
is_plain c = nat_lt 32 c && nat_lt c 128

plain-low : (c : ℕ) → is_plain c ≡ true → c < 128
plain-low c h = grind (arith, nat_tests)

plain-unblank : (c : ℕ) → is_plain c ≡ true → is_blank c ≡ false
plain-unblank c h = grind (arith, nat_tests)

ascii_from : (text : List ℕ) → list_all is_plain text ≡ true → IsAscii text
ascii_from [] h = IsAscii-nil
ascii_from (c ∷ text) h = IsAscii-cons c text (plain-low c (and_first _ _ h)) (ascii_from text (and_second _ _ h))

unbroken_from : (text : List ℕ) → list_all is_plain text ≡ true → All (λ c. is_blank c ≡ false) text
unbroken_from [] h = All-nil (λ c. is_blank c ≡ false)
unbroken_from (c ∷ text) h =
    All-cons (λ d. is_blank d ≡ false) c text (plain-unblank c (and_first _ _ h)) (unbroken_from text (and_second _ _ h))

IsAscii-bytes_text : (part : List ℕ) → IsAscii (bytes_text part)
unfolding bytes_text
IsAscii-bytes_text [] = IsAscii-cons 45 [] (lit< tt) IsAscii-nil
IsAscii-bytes_text (b ∷ part) = IsAscii-encode_with lower_digits (b ∷ part) (ascii_from lower_digits refl)

IsAscii-join : (c : ℕ) (texts : List (List ℕ)) → c < 128 → All IsAscii texts → IsAscii (join_with_byte c texts)
IsAscii-join c [] low h = IsAscii-nil
IsAscii-join c (text ∷ []) low h = All-head IsAscii text [] h
IsAscii-join c (text ∷ next ∷ texts) low h =
    IsAscii-append text (c ∷ join_with_byte c (next ∷ texts)) (All-head IsAscii text (next ∷ texts) h)
    (IsAscii-cons c (join_with_byte c (next ∷ texts)) low (IsAscii-join c (next ∷ texts) low (All-tail IsAscii text (next ∷ texts) h)))

all_decimal : (ns : List ℕ) → All (λ n. n < 2 ^ 16) ns → All IsAscii (map decimal ns)
all_decimal [] h = All-nil IsAscii
all_decimal (n ∷ ns) h =
    All-cons IsAscii (decimal n) (map decimal ns) (IsAscii-decimal n (omega (arith, All-head (λ m. m < 2 ^ 16) n ns h)))
    (all_decimal ns (All-tail (λ m. m < 2 ^ 16) n ns h))

IsAscii-numbers_text : (part : List ℕ) → All (λ n. n < 2 ^ 16) part → IsAscii (numbers_text part)
unfolding numbers_text
IsAscii-numbers_text [] h = IsAscii-cons 45 [] (lit< tt) IsAscii-nil
IsAscii-numbers_text (n ∷ part) h = IsAscii-join 44 (map decimal (n ∷ part)) (lit< tt) (all_decimal (n ∷ part) h)

-- a text that is both
abbrev IsPlain : List ℕ → Type 0
IsPlain text = IsAscii text × IsWord text

plain_name : (c : ℕ) (text : List ℕ) → list_all is_plain (c ∷ text) ≡ true → IsPlain (c ∷ text)
plain_name c text h = (ascii_from (c ∷ text) h, record { some = omega arith; unbroken = unbroken_from (c ∷ text) h })

-- a name that is plain; the other pieces are where they fit
abbrev NamesPlain : Piece → Type 0
NamesPlain (Name text) = IsPlain text
NamesPlain p = Unit {0}

plain_text : (p : Piece) → PieceFits p → NamesPlain p → IsPlain (piece_text p)
plain_text (Name text) fits plain = plain
plain_text (Number n) fits plain = (IsAscii-decimal n (omega arith), IsWord-decimal n fits)
plain_text (Bytes part) fits plain = (IsAscii-bytes_text part, IsWord-bytes_text part fits)
plain_text (Numbers part) fits plain = (IsAscii-numbers_text part fits, IsWord-numbers_text part fits)

plain_texts : (ps : List Piece) → All PieceFits ps → AllByRecursion NamesPlain ps → All IsPlain (map piece_text ps)
plain_texts [] fits plain = All-nil IsPlain
plain_texts (p ∷ ps) fits plain =
    All-cons IsPlain (piece_text p) (map piece_text ps) (plain_text p (All-head PieceFits p ps fits) plain.0)
    (plain_texts ps (All-tail PieceFits p ps fits) plain.1)

-- ---- the names of each command are plain

slot_plain : (s : Slot) → IsPlain (slot_text s)
slot_plain slots.Free = plain_name 102 (codes "ree") refl
slot_plain slots.Class = plain_name 99 (codes "lass") refl

sort_plain : (s : Sort) → IsPlain (sort_text s)
sort_plain sorts.Members = plain_name 109 (codes "ember") refl
sort_plain sorts.Others = plain_name 111 (codes "ther") refl

form_plain : (f : Form) → IsPlain (form_name f)
form_plain forms.Plain = plain_name 112 (codes "lain") refl
form_plain forms.List = plain_name 108 (codes "ist") refl
form_plain forms.Zombit = plain_name 122 (codes "ombit") refl
form_plain forms.Pioneer = plain_name 112 (codes "ioneer") refl

index_plain : (t : Told) (bs ns : List ℕ) → AllByRecursion NamesPlain (index_pieces (record { told = t; bytes = bs; numbers = ns }))
index_plain (told.Plain t) bs ns = (tt, (tt, tt))
index_plain (told.List t) bs ns = (tt, (tt, tt))
index_plain (told.Zombit t) bs ns = (tt, (tt, (tt, (tt, (tt, tt)))))
index_plain (told.Pioneer t) bs ns = (tt, (tt, (tt, (tt, tt))))

choice_plain : (x : Choice) → AllByRecursion NamesPlain (choice_pieces x)
choice_plain choices.Plain = (form_plain forms.Plain, tt)
choice_plain choices.List = (form_plain forms.List, tt)
choice_plain (choices.Zombit size) = (form_plain forms.Zombit, (tt, tt))
choice_plain choices.Pioneer = (form_plain forms.Pioneer, tt)

question_plain : (q : Question) → AllByRecursion NamesPlain (question_pieces q)
question_plain questions.Last = (plain_name 108 (codes "ast") refl, tt)
question_plain (questions.Holds i) = (plain_name 104 (codes "olds") refl, (tt, tt))
question_plain (questions.Next s i) = (plain_name 110 (codes "ext") refl, (sort_plain s, (tt, tt)))
question_plain (questions.Previous s i) = (plain_name 112 (codes "revious") refl, (sort_plain s, (tt, tt)))
question_plain (questions.Rank s i) = (plain_name 114 (codes "ank") refl, (sort_plain s, (tt, tt)))
question_plain (questions.Select s k) = (plain_name 115 (codes "elect") refl, (sort_plain s, (tt, tt)))

call_plain : (x : Call) → AllByRecursion NamesPlain (call_pieces x)
call_plain calls.Next = (plain_name 110 (codes "ext") refl, tt)
call_plain (calls.Sheet n) = (plain_name 115 (codes "heet") refl, (tt, tt))
call_plain (calls.Go q) = (plain_name 103 (codes "o") refl, (tt, tt))
call_plain (calls.Count a b) = (plain_name 99 (codes "ount") refl, (tt, (tt, tt)))
call_plain (calls.Nearest p) = (plain_name 110 (codes "earest") refl, (tt, tt))
call_plain (calls.Sign s) = (plain_name 115 (codes "ign") refl, (tt, tt))
call_plain (calls.Pick k) = (plain_name 112 (codes "ick") refl, (tt, tt))

plain-append : (ps qs : List Piece) → AllByRecursion NamesPlain ps → AllByRecursion NamesPlain qs → AllByRecursion NamesPlain (ps ++ qs)
plain-append [] qs h k = k
plain-append (p ∷ ps) qs h k = (h.0, plain-append ps qs h.1 k)

names_plain : (x : Said) → AllByRecursion NamesPlain (pieces x)
names_plain (says.Open s w) =
    (plain_name 111 (codes "pen") refl, (slot_plain s, (form_plain (form_of (choice_told w.told)), index_plain w.told w.bytes w.numbers)))
names_plain (says.Pair v w) = (
  plain_name 112 (codes "air") refl,
  (
    form_plain (form_of (choice_told v.told)),
    plain-append (index_pieces v) (index_pieces w) (index_plain v.told v.bytes v.numbers) (index_plain w.told w.bytes w.numbers),
  ),
)
names_plain (says.Fill s x) = (plain_name 102 (codes "ill") refl, (slot_plain s, choice_plain x))
names_plain (says.Turn s) = (plain_name 116 (codes "urn") refl, (slot_plain s, tt))
names_plain (says.Level s a b) = (plain_name 108 (codes "evel") refl, (slot_plain s, (tt, (tt, tt))))
names_plain (says.Ask s q) = (slot_plain s, question_plain q)
names_plain says.Round = (plain_name 114 (codes "ound") refl, tt)
names_plain (says.Call x) = call_plain x
names_plain says.Close = (plain_name 99 (codes "lose") refl, tt)

-- ---- the line

-- the first word begins with neither a blank nor `#`
abbrev first_fits : List (List ℕ) → Bool
first_fits [] = false
first_fits ([] ∷ words) = false
first_fits ((c ∷ word) ∷ words) = not (is_blank c) && not (c == 35)

first_said : (x : Said) → first_fits (map piece_text (pieces x)) ≡ true
first_said (says.Open s w) = refl
first_said (says.Pair v w) = refl
first_said (says.Fill s x) = refl
first_said (says.Turn s) = refl
first_said (says.Level s a b) = refl
first_said (says.Ask slots.Free q) = refl
first_said (says.Ask slots.Class q) = refl
first_said says.Round = refl
first_said (says.Call calls.Next) = refl
first_said (says.Call (calls.Sheet n)) = refl
first_said (says.Call (calls.Go q)) = refl
first_said (says.Call (calls.Count a b)) = refl
first_said (says.Call (calls.Nearest p)) = refl
first_said (says.Call (calls.Sign s)) = refl
first_said (says.Call (calls.Pick k)) = refl
first_said says.Close = refl

begun : (c : ℕ) (line : List ℕ) → (not (is_blank c) && not (c == 35)) ≡ true → (is_comment (c ∷ line) ≡ false) × (list_all is_blank (c ∷ line) ≡ false)
begun c line h =
    let unblank : is_blank c ≡ false = not-true (is_blank c) (and_first _ _ h) in
    (not-true (c == 35) (and_second _ _ h), rw unblank refl)

spaced_begun : (words : List (List ℕ)) → first_fits words ≡ true → (is_comment (spaced words) ≡ false) × (list_all is_blank (spaced words) ≡ false)
unfolding spaced
spaced_begun [] h = absurd cc
spaced_begun ([] ∷ words) h = absurd cc
spaced_begun ((c ∷ word) ∷ []) h = begun c word h
spaced_begun ((c ∷ word) ∷ next ∷ words) h = begun c (word ++ (32 ∷ join_with_byte 32 (next ∷ words))) h

all_first : (texts : List (List ℕ)) → All IsPlain texts → All IsAscii texts × All IsWord texts
all_first [] h = (All-nil IsAscii, All-nil IsWord)
all_first (text ∷ texts) h =
    let here = All-head IsPlain text texts h in
    let more = all_first texts (All-tail IsPlain text texts h) in
    (All-cons IsAscii text texts here.0 more.0, All-cons IsWord text texts here.1 more.1)

ascii_spaced : (words : List (List ℕ)) → All IsAscii words → IsAscii (spaced words)
unfolding spaced
ascii_spaced words h = IsAscii-join 32 words (lit< tt) h

pub line_said : (x : Said) → IsWhole x → All PieceFits (pieces x) → length (said_text x) ≤ 800000 → line_read (said_text x) true ≡ Ok (Some x)
unfolding line_read
line_said x whole fits short =
    let both = all_first (map piece_text (pieces x)) (plain_texts (pieces x) fits (names_plain x)) in
    let begins = spaced_begun (map piece_text (pieces x)) (first_said x) in
    let room : ltb 800000 (length (said_text x)) ≡ false = le-ltb _ _ short in
    let text : is_utf8 (said_text x) ≡ true = is_utf8-from_IsUtf8 (said_text x) (IsUtf8-from_ascii (said_text x) (ascii_spaced (map piece_text (pieces x)) both.0)) in
    let words : words_of (said_text x) ≡ map piece_text (pieces x) = words_of-spaced (map piece_text (pieces x)) both.1 in
    let read : reading (map piece_text (pieces x)) ≡ Ok x = reading_hears (map piece_text (pieces x)) x whole (say_texts (pieces x) fits) in
    rw (begins.0, room, begins.1, text, words, read) refl

-- ---- an index is said in the words of a draft

pub index_words : (t : Told) (bs ns : List ℕ)
    → map piece_text (index_pieces (record { told = t; bytes = bs; numbers = ns }))
    ≡ map decimal (opening_numbers t) ++ map (λ part. by_width (choice_told t) (bytes_text part) (numbers_text part)) (fronts_told t bs ns)
index_words (told.Plain t) bs ns = refl
index_words (told.List t) bs ns = refl
index_words (told.Zombit t) bs ns = refl
index_words (told.Pioneer t) bs ns = refl
