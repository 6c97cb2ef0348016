-- The kinds of words: what was read is said, and what is said is read.
use Rattle.std.proofs.Common.{◌≡◌, ℕ, ◌≤◌, Bool, true, false, cond, leb, ◌&&◌, List, [], ◌∷◌, None, Some, Ok, refl, ap, ◌∙◌, arith}
use Rattle.std.specs.Prelude.{codes}
use Rattle.faults.specs.Texts.{form_name}
use Rattle.faults.specs.declared.fault.Form.{Form}
use Rattle.faults.specs.declared.fault.Form.TheVariants as forms
use Rattle.sets.specs.declared.Sort.{Sort}
use Rattle.sets.specs.declared.Sort.TheVariants as sorts
use Rattle.std.proofs.lemmas.Bool.{le-leb}
use Rattle.notation.specs.Numbers.{worth, number_of, numbers_of}
use Rattle.notation.proofs.NumberLists.{number_of-le}
use Rattle.notation.specs.Parts.{bytes_of}
use Rattle.commands.specs.declared.command.Slot.{Slot}
use Rattle.commands.specs.declared.command.Slot.TheVariants as slots
use Rattle.commands.specs.declared.expected.Expected.TheVariants as expected
use Rattle.commands.specs.declared.names.Asked.{Asked}
use Rattle.commands.specs.declared.names.Asked.TheVariants as asks
use Rattle.commands.specs.declared.names.Name.{Name}
use Rattle.commands.specs.declared.names.Name.TheVariants as names
use Rattle.commands.specs.Reading.{Reader, listed, as_meant}
use Rattle.commands.specs.Kinds.{name_words, slot_words, form_words, asked_words, sort_words, name, slot, form, asked, sort, number, sheet_number, bytes, numbers}
use Rattle.commands.specs.Writing as pieces
use Rattle.commands.specs.Writing.{Piece, Says, SayFirst, slot_text, sort_text}
use Rattle.commands.proofs.Steps.{as_meant_ok, wanted_ok, wanted_said, listed_ok}

-- a reader of one word: what was read is said by its piece
abbrev pub Keeps : {A : Type 0} → Reader A → (A → Piece) → Type 0
Keeps {A} read piece = (words : List (List ℕ)) (x : A) (left : List (List ℕ)) → read words ≡ Ok (x, left) → SayFirst (piece x ∷ []) words left

-- and what its piece says is read
abbrev pub Hears : {A : Type 0} → Reader A → (A → Piece) → Type 0
Hears {A} read piece =
    (x : A) (ps : List Piece) (words left : List (List ℕ)) → SayFirst (piece x ∷ ps) words left
    → (mid : List (List ℕ)) × (read words ≡ Ok (x, mid)) × SayFirst ps mid left

-- the texts of names
abbrev pub name_text : Name → List ℕ
name_text names.Open = codes "open"
name_text names.Pair = codes "pair"
name_text names.Fill = codes "fill"
name_text names.Turn = codes "turn"
name_text names.Level = codes "level"
name_text names.Free = codes "free"
name_text names.Class = codes "class"
name_text names.Round = codes "round"
name_text names.Next = codes "next"
name_text names.Sheet = codes "sheet"
name_text names.Go = codes "go"
name_text names.Count = codes "count"
name_text names.Nearest = codes "nearest"
name_text names.Sign = codes "sign"
name_text names.Pick = codes "pick"
name_text names.Close = codes "close"

abbrev pub asked_text : Asked → List ℕ
asked_text asks.Last = codes "last"
asked_text asks.Holds = codes "holds"
asked_text asks.Next = codes "next"
asked_text asks.Previous = codes "previous"
asked_text asks.Rank = codes "rank"
asked_text asks.Select = codes "select"

-- each is listed by its text
name_listed : (x : Name) → listed name_words (name_text x) ≡ Some x
name_listed names.Open = refl
name_listed names.Pair = refl
name_listed names.Fill = refl
name_listed names.Turn = refl
name_listed names.Level = refl
name_listed names.Free = refl
name_listed names.Class = refl
name_listed names.Round = refl
name_listed names.Next = refl
name_listed names.Sheet = refl
name_listed names.Go = refl
name_listed names.Count = refl
name_listed names.Nearest = refl
name_listed names.Sign = refl
name_listed names.Pick = refl
name_listed names.Close = refl

slot_listed : (x : Slot) → listed slot_words (slot_text x) ≡ Some x
slot_listed slots.Free = refl
slot_listed slots.Class = refl

form_listed : (x : Form) → listed form_words (form_name x) ≡ Some x
form_listed forms.Plain = refl
form_listed forms.List = refl
form_listed forms.Zombit = refl
form_listed forms.Pioneer = refl

asked_listed : (x : Asked) → listed asked_words (asked_text x) ≡ Some x
asked_listed asks.Last = refl
asked_listed asks.Holds = refl
asked_listed asks.Next = refl
asked_listed asks.Previous = refl
asked_listed asks.Rank = refl
asked_listed asks.Select = refl

sort_listed : (x : Sort) → listed sort_words (sort_text x) ≡ Some x
sort_listed sorts.Members = refl
sort_listed sorts.Others = refl

pub name_keeps : Keeps name (λ x. pieces.Name (name_text x))
unfolding name
name_keeps = wanted_ok expected.Command (listed name_words) (λ x. pieces.Name (name_text x))
    (listed_ok name_text name_words (refl, (refl, (refl, (refl, (refl, (refl, (refl, (refl, (refl, (refl, (refl, (refl, (refl, (refl, (refl, (refl, tt)))))))))))))))))

pub slot_keeps : Keeps slot (λ x. pieces.Name (slot_text x))
unfolding slot
slot_keeps = wanted_ok expected.Slot (listed slot_words) (λ x. pieces.Name (slot_text x)) (listed_ok slot_text slot_words (refl, (refl, tt)))

pub form_keeps : Keeps form (λ x. pieces.Name (form_name x))
unfolding form
form_keeps = wanted_ok expected.Form (listed form_words) (λ x. pieces.Name (form_name x)) (listed_ok form_name form_words (refl, (refl, (refl, (refl, tt)))))

pub asked_keeps : Keeps asked (λ x. pieces.Name (asked_text x))
unfolding asked
asked_keeps = wanted_ok expected.Question (listed asked_words) (λ x. pieces.Name (asked_text x)) (listed_ok asked_text asked_words (refl, (refl, (refl, (refl, (refl, (refl, tt)))))))

pub sort_keeps : Keeps sort (λ x. pieces.Name (sort_text x))
unfolding sort
sort_keeps = wanted_ok expected.Sort (listed sort_words) (λ x. pieces.Name (sort_text x)) (listed_ok sort_text sort_words (refl, (refl, tt)))

pub number_keeps : Keeps number pieces.Number
unfolding number
number_keeps = wanted_ok expected.Number (number_of 4294967295) pieces.Number (λ word x h. h)

-- a number that is read as worth at most so much is read so as worth at most what is as much as it
within : (a b : Bool) (v most m n : ℕ) → cond (a && (b && leb v most)) (Some v) None ≡ Some n → n ≤ m → cond (a && (b && leb v m)) (Some v) None ≡ Some n
within false b v most m n e h = absurd cc
within true false v most m n e h = absurd cc
within true true v most m n e h = within_one (leb v most) e
  where
    within_one : (c : Bool) → cond c (Some v) None ≡ Some n → cond (leb v m) (Some v) None ≡ Some n
    within_one true e =
        let is : v ≡ n = cc in
        rw (le-leb v m (omega arith)) e
    within_one false e = absurd cc

number_of-within : (most m : ℕ) (word : List ℕ) (n : ℕ) → number_of most word ≡ Some n → n ≤ m → number_of m word ≡ Some n
unfolding number_of
number_of-within most m word n e h = within _ _ (worth word) most m n e h

pub sheet_keeps : (words : List (List ℕ)) (n : ℕ) (left : List (List ℕ)) → sheet_number words ≡ Ok (n, left) → SayFirst (pieces.Number n ∷ []) words left × (n ≤ 65536)
unfolding sheet_number
sheet_keeps [] n left e = absurd cc
sheet_keeps (word ∷ words) n left e =
    let w = as_meant_ok expected.SheetNumber (number_of 65536 word) words n left e in
    let low : n ≤ 65536 = number_of-le 65536 word n w.0 in
    ((number_of-within 65536 4294967295 word n w.0 (omega arith), w.1), low)

pub sheet_hears : (n : ℕ) (ps : List Piece) (words left : List (List ℕ)) → n ≤ 65536 → SayFirst (pieces.Number n ∷ ps) words left
    → (mid : List (List ℕ)) × (sheet_number words ≡ Ok (n, mid)) × SayFirst ps mid left
unfolding sheet_number
sheet_hears n ps [] left low h = absurd h
sheet_hears n ps (word ∷ words) left low h =
    (words, ap (λ o. as_meant expected.SheetNumber o words) (number_of-within 4294967295 65536 word n h.0 low), h.1)

pub bytes_keeps : Keeps bytes pieces.Bytes
unfolding bytes
bytes_keeps = wanted_ok expected.Bytes bytes_of pieces.Bytes (λ word x h. h)

pub numbers_keeps : Keeps numbers pieces.Numbers
unfolding numbers
numbers_keeps = wanted_ok expected.Numbers numbers_of pieces.Numbers (λ word x h. h)

pub name_hears : Hears name (λ x. pieces.Name (name_text x))
unfolding name
name_hears = wanted_said expected.Command (listed name_words) (λ x. pieces.Name (name_text x)) (λ word x h. ap (listed name_words) h ∙ name_listed x)

pub slot_hears : Hears slot (λ x. pieces.Name (slot_text x))
unfolding slot
slot_hears = wanted_said expected.Slot (listed slot_words) (λ x. pieces.Name (slot_text x)) (λ word x h. ap (listed slot_words) h ∙ slot_listed x)

pub form_hears : Hears form (λ x. pieces.Name (form_name x))
unfolding form
form_hears = wanted_said expected.Form (listed form_words) (λ x. pieces.Name (form_name x)) (λ word x h. ap (listed form_words) h ∙ form_listed x)

pub asked_hears : Hears asked (λ x. pieces.Name (asked_text x))
unfolding asked
asked_hears = wanted_said expected.Question (listed asked_words) (λ x. pieces.Name (asked_text x)) (λ word x h. ap (listed asked_words) h ∙ asked_listed x)

pub sort_hears : Hears sort (λ x. pieces.Name (sort_text x))
unfolding sort
sort_hears = wanted_said expected.Sort (listed sort_words) (λ x. pieces.Name (sort_text x)) (λ word x h. ap (listed sort_words) h ∙ sort_listed x)

pub number_hears : Hears number pieces.Number
unfolding number
number_hears = wanted_said expected.Number (number_of 4294967295) pieces.Number (λ word x h. h)

pub bytes_hears : Hears bytes pieces.Bytes
unfolding bytes
bytes_hears = wanted_said expected.Bytes bytes_of pieces.Bytes (λ word x h. h)

pub numbers_hears : Hears numbers pieces.Numbers
unfolding numbers
numbers_hears = wanted_said expected.Numbers numbers_of pieces.Numbers (λ word x h. h)
