-- The readers of commands stop at the first place at which no command goes on.
use Rattle.std.proofs.Common.{◌≡◌, ◌⊎◌, inl, inr, ◌+◌, ℕ, suc, List, [], ◌∷◌, ◌++◌, length, take, Some, Result, Ok, Err, refl, sym, ap, subst, ◌∙◌, append_assoc, arith}
use Rattle.std.specs.Prelude.{codes}
use Rattle.std.proofs.lemmas.List.{append-nil, length-append, take_at}
use Rattle.faults.specs.declared.fault.Form.{Form}
use Rattle.faults.specs.declared.fault.Form.TheVariants as forms
use Rattle.forms.specs.Choices.{form_of}
use Rattle.forms.specs.declared.choice.Choice.{Choice}
use Rattle.forms.specs.declared.choice.Choice.TheVariants as choices
use Rattle.notation.specs.Numbers.{number_of, numbers_of}
use Rattle.notation.specs.Parts.{bytes_of}
use Rattle.replay.specs.declared.calls.Call.{Call}
use Rattle.replay.specs.declared.calls.Call.TheVariants as calls
use Rattle.sets.specs.declared.Sort.{Sort}
use Rattle.sets.specs.declared.Sort.TheVariants as sorts
use Rattle.commands.specs.declared.command.Question.{Question}
use Rattle.commands.specs.declared.command.Question.TheVariants as questions
use Rattle.commands.specs.declared.command.Slot.{Slot}
use Rattle.commands.specs.declared.command.Slot.TheVariants as slots
use Rattle.commands.specs.declared.expected.Expected.{Expected}
use Rattle.commands.specs.declared.expected.Expected.TheVariants as expected
use Rattle.commands.specs.declared.names.Asked.{Asked}
use Rattle.commands.specs.declared.names.Asked.TheVariants as asks
use Rattle.commands.specs.declared.names.Name.{Name}
use Rattle.commands.specs.declared.names.Name.TheVariants as names
use Rattle.commands.specs.Kinds.{name_words, slot_words, form_words, asked_words, sort_words, name, slot, form, asked, sort, number, sheet_number, bytes, numbers}
use Rattle.commands.specs.Reading.{Reader, listed, ◌>>=◌, done, ended}
use Rattle.commands.specs.Said as says
use Rattle.commands.specs.Said.{Said, Written, plain_written, list_written, zombit_written, pioneer_written}
use Rattle.commands.specs.Sentences.{plain_index, list_index, zombit_index, pioneer_index, index_of, choice_of, question_of, ask_of, sentence_of, reading}
use Rattle.commands.specs.Wanting.{index_wants, choice_wants, form_written, question_wants, tail_wants, wants, wanted_at, StopsAt}
use Rattle.commands.proofs.Steps.{followed_ok, read_is}
use Rattle.commands.proofs.Stops.{Good, done_good, take-front, then_good, wanted_at-left, wanted_at-right, wanted_good}
use Rattle.commands.proofs.Written.{index_keeps}
use Rattle.commands.proofs.Sayings.{ended_ok}

-- what is wanted at the places of a reader, whatever it reads
abbrev always : {A : Type 0} → List Expected → A → List Expected
always kinds x = kinds

-- ---- the kinds of words

name_good : Good name (always (expected.Command ∷ []))
unfolding name
name_good = wanted_good expected.Command (listed name_words) (codes "round") names.Round refl

slot_good : Good slot (always (expected.Slot ∷ []))
unfolding slot
slot_good = wanted_good expected.Slot (listed slot_words) (codes "free") slots.Free refl

form_good : Good form (always (expected.Form ∷ []))
unfolding form
form_good = wanted_good expected.Form (listed form_words) (codes "plain") forms.Plain refl

asked_good : Good asked (always (expected.Question ∷ []))
unfolding asked
asked_good = wanted_good expected.Question (listed asked_words) (codes "last") asks.Last refl

sort_good : Good sort (always (expected.Sort ∷ []))
unfolding sort
sort_good = wanted_good expected.Sort (listed sort_words) (codes "member") sorts.Members refl

zero_number : number_of 4294967295 (codes "0") ≡ Some 0
unfolding number_of
zero_number = refl

number_good : Good number (always (expected.Number ∷ []))
unfolding number
number_good = wanted_good expected.Number (number_of 4294967295) (codes "0") 0 zero_number

zero_sheet : number_of 65536 (codes "0") ≡ Some 0
unfolding number_of
zero_sheet = refl

sheet_good : Good sheet_number (always (expected.SheetNumber ∷ []))
unfolding sheet_number
sheet_good = wanted_good expected.SheetNumber (number_of 65536) (codes "0") 0 zero_sheet

dash_bytes : bytes_of (codes "-") ≡ Some []
unfolding bytes_of
dash_bytes = refl

bytes_good : Good bytes (always (expected.Bytes ∷ []))
unfolding bytes
bytes_good = wanted_good expected.Bytes bytes_of (codes "-") [] dash_bytes

dash_numbers : numbers_of (codes "-") ≡ Some []
unfolding numbers_of
dash_numbers = refl

numbers_good : Good numbers (always (expected.Numbers ∷ []))
unfolding numbers
numbers_good = wanted_good expected.Numbers numbers_of (codes "-") [] dash_numbers

-- one thing after another, where neither changes what is wanted
steps : {A B : Type 0} (read : Reader A) (next : A → Reader B) (kinds behind : List Expected) → Good read (always kinds) → ((x : A) → Good (next x) (always behind))
    → Good (read >>= next) (always (kinds ++ behind))
steps read next kinds behind good nexts =
    then_good read next (always kinds) (λ x. always behind) (always (kinds ++ behind)) good nexts (λ x words y left h. refl)

-- ---- indexes and forms

plain_good : Good plain_index (always (index_wants forms.Plain))
unfolding plain_index
plain_good =
    steps number (λ last. bytes >>= λ bits. done (plain_written last bits)) (expected.Number ∷ []) (expected.Bytes ∷ []) number_good
    (λ last. steps bytes (λ bits. done (plain_written last bits)) (expected.Bytes ∷ []) [] bytes_good (λ bits. done_good (plain_written last bits)))

list_good : Good list_index (always (index_wants forms.List))
unfolding list_index
list_good =
    steps number (λ last. numbers >>= λ members. done (list_written last members)) (expected.Number ∷ []) (expected.Numbers ∷ []) number_good
    (λ last. steps numbers (λ members. done (list_written last members)) (expected.Numbers ∷ []) [] numbers_good (λ members. done_good (list_written last members)))

zombit_good : Good zombit_index (always (index_wants forms.Zombit))
unfolding zombit_index
zombit_good =
    steps number (λ last. number >>= λ size. bytes >>= λ uniform. bytes >>= λ marked. bytes >>= λ mixed. done (zombit_written last size uniform marked mixed))
    (expected.Number ∷ []) (expected.Number ∷ expected.Bytes ∷ expected.Bytes ∷ expected.Bytes ∷ []) number_good (λ last.
    steps number (λ size. bytes >>= λ uniform. bytes >>= λ marked. bytes >>= λ mixed. done (zombit_written last size uniform marked mixed))
    (expected.Number ∷ []) (expected.Bytes ∷ expected.Bytes ∷ expected.Bytes ∷ []) number_good (λ size.
    steps bytes (λ uniform. bytes >>= λ marked. bytes >>= λ mixed. done (zombit_written last size uniform marked mixed))
    (expected.Bytes ∷ []) (expected.Bytes ∷ expected.Bytes ∷ []) bytes_good (λ uniform.
    steps bytes (λ marked. bytes >>= λ mixed. done (zombit_written last size uniform marked mixed))
    (expected.Bytes ∷ []) (expected.Bytes ∷ []) bytes_good (λ marked.
    steps bytes (λ mixed. done (zombit_written last size uniform marked mixed)) (expected.Bytes ∷ []) [] bytes_good (λ mixed.
    done_good (zombit_written last size uniform marked mixed))))))

pioneer_good : Good pioneer_index (always (index_wants forms.Pioneer))
unfolding pioneer_index
pioneer_good =
    steps number (λ last. number >>= λ count. bytes >>= λ starts. bytes >>= λ sums. done (pioneer_written last count starts sums))
    (expected.Number ∷ []) (expected.Number ∷ expected.Bytes ∷ expected.Bytes ∷ []) number_good (λ last.
    steps number (λ count. bytes >>= λ starts. bytes >>= λ sums. done (pioneer_written last count starts sums))
    (expected.Number ∷ []) (expected.Bytes ∷ expected.Bytes ∷ []) number_good (λ count.
    steps bytes (λ starts. bytes >>= λ sums. done (pioneer_written last count starts sums))
    (expected.Bytes ∷ []) (expected.Bytes ∷ []) bytes_good (λ starts.
    steps bytes (λ sums. done (pioneer_written last count starts sums)) (expected.Bytes ∷ []) [] bytes_good (λ sums.
    done_good (pioneer_written last count starts sums)))))

index_good : (f : Form) → Good (index_of f) (always (index_wants f))
unfolding index_of
index_good forms.Plain = plain_good
index_good forms.List = list_good
index_good forms.Zombit = zombit_good
index_good forms.Pioneer = pioneer_good

choice_good : (f : Form) → Good (choice_of f) (always (choice_wants f))
unfolding choice_of
choice_good forms.Plain = done_good choices.Plain
choice_good forms.List = done_good choices.List
choice_good forms.Pioneer = done_good choices.Pioneer
choice_good forms.Zombit = steps number (λ size. done (choices.Zombit size)) (expected.Number ∷ []) [] number_good (λ size. done_good (choices.Zombit size))

-- ---- questions

-- behind the name of a question
asked_wants : Asked → List Expected
asked_wants asks.Last = []
asked_wants asks.Holds = expected.Number ∷ []
asked_wants asks.Next = expected.Sort ∷ expected.Number ∷ []
asked_wants asks.Previous = expected.Sort ∷ expected.Number ∷ []
asked_wants asks.Rank = expected.Sort ∷ expected.Number ∷ []
asked_wants asks.Select = expected.Sort ∷ expected.Number ∷ []

sorted_good : (make : Sort → ℕ → Question) → Good (sort >>= λ s. number >>= λ i. done (make s i)) (always (expected.Sort ∷ expected.Number ∷ []))
sorted_good make =
    steps sort (λ s. number >>= λ i. done (make s i)) (expected.Sort ∷ []) (expected.Number ∷ []) sort_good (λ s.
    steps number (λ i. done (make s i)) (expected.Number ∷ []) [] number_good (λ i. done_good (make s i)))

question_good : (n : Asked) → Good (question_of n) (always (asked_wants n))
unfolding question_of asked_wants
question_good asks.Last = done_good questions.Last
question_good asks.Holds = steps number (λ i. done (questions.Holds i)) (expected.Number ∷ []) [] number_good (λ i. done_good (questions.Holds i))
question_good asks.Next = sorted_good questions.Next
question_good asks.Previous = sorted_good questions.Previous
question_good asks.Rank = sorted_good questions.Rank
question_good asks.Select = sorted_good questions.Select

-- what was read wants just that
sorted_wants : (make : Sort → ℕ → Question) → ((s : Sort) (i : ℕ) → question_wants (make s i) ≡ expected.Sort ∷ expected.Number ∷ [])
    → (words : List (List ℕ)) (q : Question × List (List ℕ)) → (sort >>= λ s. number >>= λ i. done (make s i)) words ≡ Ok q
    → question_wants q.0 ≡ expected.Sort ∷ expected.Number ∷ []
sorted_wants make is words q e =
    let a = followed_ok (sort words) (λ s. number >>= λ i. done (make s i)) q e in
    let b = followed_ok (number a.0.1) (λ i. done (make a.0.0 i)) q a.2 in
    subst (λ (r : Question × List (List ℕ)). question_wants r.0 ≡ expected.Sort ∷ expected.Number ∷ []) (read_is (make a.0.0 b.0.0, b.0.1) q b.2) (is a.0.0 b.0.0)

question_wants_asked : (n : Asked) (words : List (List ℕ)) (q : Question × List (List ℕ)) → question_of n words ≡ Ok q → question_wants q.0 ≡ asked_wants n
unfolding question_of asked_wants
question_wants_asked asks.Last words q e =
    subst (λ (r : Question × List (List ℕ)). question_wants r.0 ≡ []) (read_is (questions.Last, words) q e) refl
question_wants_asked asks.Holds words q e =
    let a = followed_ok (number words) (λ i. done (questions.Holds i)) q e in
    subst (λ (r : Question × List (List ℕ)). question_wants r.0 ≡ expected.Number ∷ []) (read_is (questions.Holds a.0.0, a.0.1) q a.2) refl
question_wants_asked asks.Next words q e = sorted_wants questions.Next (λ s i. refl) words q e
question_wants_asked asks.Previous words q e = sorted_wants questions.Previous (λ s i. refl) words q e
question_wants_asked asks.Rank words q e = sorted_wants questions.Rank (λ s i. refl) words q e
question_wants_asked asks.Select words q e = sorted_wants questions.Select (λ s i. refl) words q e

-- ---- commands

-- all that a reader reads is so
abbrev Makes : {A : Type 0} → Reader A → (A → Type 0) → Type 0
Makes {A} read P = (words : List (List ℕ)) (x : A × List (List ℕ)) → read words ≡ Ok x → P x.0

makes_done : {A : Type 0} (y : A) (P : A → Type 0) → P y → Makes (done y) P
makes_done {A} y P p words x e = subst (λ (r : A × List (List ℕ)). P r.0) (read_is (y, words) x e) p

makes_then : {A B : Type 0} (read : Reader A) (next : A → Reader B) (P : B → Type 0) → ((x : A) → Makes (next x) P) → Makes (read >>= next) P
makes_then read next P h words x e = let a = followed_ok (read words) next x e in h a.0.0 a.0.1 x a.2

-- what is wanted, in other words
good_as : {A : Type 0} (read : Reader A) (kinds others : A → List Expected) → Good read kinds → Makes read (λ x. others x ≡ kinds x) → Good read others
good_as {A} read kinds others good same =
    record {
      fronts = λ words x left h. let f = good.fronts words x left h in
          record { front = f.front; parts = f.parts; places = f.places ∙ ap length (sym (same words (x, left) h)); again = f.again };
      stops = λ words e h. let s = good.stops words e h in
          record {
            at = s.at;
            within = s.within;
            x = s.x;
            more = s.more;
            begins = s.begins;
            kind = ap (λ (ks : List Expected). wanted_at ks s.at) (same (take s.at words ++ s.more) (s.x, []) s.begins) ∙ s.kind;
            unfit = s.unfit;
          };
      some = good.some;
    }

-- the last step, and what is made of it
last_step : {A B : Type 0} (read : Reader A) (make : A → B) (kinds : List Expected) → Good read (always kinds) → Good (read >>= λ x. done (make x)) (always kinds)
last_step read make kinds good =
    good_as (read >>= λ x. done (make x)) (always (kinds ++ [])) (always kinds)
    (steps read (λ x. done (make x)) kinds [] good (λ x. done_good (make x))) (λ words x e. sym (append-nil kinds))

-- the form of an index or of a choice
form_in : Said → Form
form_in (says.Open s w) = form_written w
form_in (says.Pair v w) = form_written v
form_in (says.Fill s choice) = form_of choice
form_in x = forms.Plain

-- what was read behind a form has that form
opened : (s : Slot) (f : Form) (words : List (List ℕ)) (x : Said × List (List ℕ)) → (index_of f >>= λ w. done (says.Open s w)) words ≡ Ok x
    → expected.Form ∷ index_wants (form_in x.0) ≡ expected.Form ∷ index_wants f
unfolding form_in
opened s f words x e =
    let a = followed_ok (index_of f words) (λ w. done (says.Open s w)) x e in
    let i = index_keeps f words a.0 a.1 in
    subst (λ (r : Said × List (List ℕ)). expected.Form ∷ index_wants (form_in r.0) ≡ expected.Form ∷ index_wants f) (read_is (says.Open s a.0.0, a.0.1) x a.2)
    (ap (λ (g : Form). expected.Form ∷ index_wants g) i.2)

paired : (f : Form) (words : List (List ℕ)) (x : Said × List (List ℕ)) → (index_of f >>= λ v. index_of f >>= λ w. done (says.Pair v w)) words ≡ Ok x
    → tail_wants x.0 ≡ expected.Form ∷ (index_wants f ++ index_wants f)
paired f words x e =
    let a = followed_ok (index_of f words) (λ v. index_of f >>= λ w. done (says.Pair v w)) x e in
    let b = followed_ok (index_of f a.0.1) (λ w. done (says.Pair a.0.0 w)) x a.2 in
    let i = index_keeps f words a.0 a.1 in
    let j = index_keeps f a.0.1 b.0 b.1 in
    subst (λ (r : Said × List (List ℕ)). tail_wants r.0 ≡ expected.Form ∷ (index_wants f ++ index_wants f)) (read_is (says.Pair a.0.0 b.0.0, b.0.1) x b.2)
    (ap (λ (g : Form). expected.Form ∷ (index_wants g ++ index_wants (form_written b.0.0))) i.2
    ∙ ap (λ (g : Form). expected.Form ∷ (index_wants f ++ index_wants g)) j.2)

choice_form : (f : Form) (words : List (List ℕ)) (c : Choice × List (List ℕ)) → choice_of f words ≡ Ok c → form_of c.0 ≡ f
unfolding choice_of
choice_form forms.Plain words c e = makes_done choices.Plain (λ x. form_of x ≡ forms.Plain) refl words c e
choice_form forms.List words c e = makes_done choices.List (λ x. form_of x ≡ forms.List) refl words c e
choice_form forms.Pioneer words c e = makes_done choices.Pioneer (λ x. form_of x ≡ forms.Pioneer) refl words c e
choice_form forms.Zombit words c e =
    makes_then number (λ size. done (choices.Zombit size)) (λ x. form_of x ≡ forms.Zombit)
    (λ size. makes_done (choices.Zombit size) (λ x. form_of x ≡ forms.Zombit) refl) words c e

filled : (s : Slot) (f : Form) (words : List (List ℕ)) (x : Said × List (List ℕ)) → (choice_of f >>= λ c. done (says.Fill s c)) words ≡ Ok x
    → expected.Form ∷ choice_wants (form_in x.0) ≡ expected.Form ∷ choice_wants f
unfolding form_in
filled s f words x e =
    let a = followed_ok (choice_of f words) (λ c. done (says.Fill s c)) x e in
    subst (λ (r : Said × List (List ℕ)). expected.Form ∷ choice_wants (form_in r.0) ≡ expected.Form ∷ choice_wants f) (read_is (says.Fill s a.0.0, a.0.1) x a.2)
    (ap (λ (g : Form). expected.Form ∷ choice_wants g) (choice_form f words a.0 a.1))

asks_for : (s : Slot) (n : Asked) (words : List (List ℕ)) (x : Said × List (List ℕ)) → (question_of n >>= λ q. done (says.Ask s q)) words ≡ Ok x
    → tail_wants x.0 ≡ expected.Question ∷ asked_wants n
asks_for s n words x e =
    let a = followed_ok (question_of n words) (λ q. done (says.Ask s q)) x e in
    subst (λ (r : Said × List (List ℕ)). tail_wants r.0 ≡ expected.Question ∷ asked_wants n) (read_is (says.Ask s a.0.0, a.0.1) x a.2)
    (ap (λ (ks : List Expected). expected.Question ∷ ks) (question_wants_asked n words a.0 a.1))

open_good : Good (slot >>= λ s. form >>= λ f. index_of f >>= λ w. done (says.Open s w)) tail_wants
unfolding form_in
open_good =
    then_good slot (λ s. form >>= λ f. index_of f >>= λ w. done (says.Open s w)) (always (expected.Slot ∷ []))
    (λ s x. expected.Form ∷ index_wants (form_in x)) tail_wants slot_good
    (λ s. then_good form (λ f. index_of f >>= λ w. done (says.Open s w)) (always (expected.Form ∷ [])) (λ f. always (index_wants f))
    (λ x. expected.Form ∷ index_wants (form_in x)) form_good (λ f. last_step (index_of f) (λ w. says.Open s w) (index_wants f) (index_good f))
    (λ f words x left e. opened s f words (x, left) e))
    (λ s words x left e.
    makes_then form (λ f. index_of f >>= λ w. done (says.Open s w)) (λ y. tail_wants y ≡ expected.Slot ∷ expected.Form ∷ index_wants (form_in y)) (λ f.
    makes_then (index_of f) (λ w. done (says.Open s w)) (λ y. tail_wants y ≡ expected.Slot ∷ expected.Form ∷ index_wants (form_in y)) (λ w.
    makes_done (says.Open s w) (λ y. tail_wants y ≡ expected.Slot ∷ expected.Form ∷ index_wants (form_in y)) refl)) words (x, left) e)

pair_good : Good (form >>= λ f. index_of f >>= λ v. index_of f >>= λ w. done (says.Pair v w)) tail_wants
pair_good =
    then_good form (λ f. index_of f >>= λ v. index_of f >>= λ w. done (says.Pair v w)) (always (expected.Form ∷ []))
    (λ f. always (index_wants f ++ index_wants f)) tail_wants form_good
    (λ f. steps (index_of f) (λ v. index_of f >>= λ w. done (says.Pair v w)) (index_wants f) (index_wants f) (index_good f)
    (λ v. last_step (index_of f) (λ w. says.Pair v w) (index_wants f) (index_good f)))
    (λ f words x left e. paired f words (x, left) e)

fill_good : Good (slot >>= λ s. form >>= λ f. choice_of f >>= λ c. done (says.Fill s c)) tail_wants
unfolding form_in
fill_good =
    then_good slot (λ s. form >>= λ f. choice_of f >>= λ c. done (says.Fill s c)) (always (expected.Slot ∷ []))
    (λ s x. expected.Form ∷ choice_wants (form_in x)) tail_wants slot_good
    (λ s. then_good form (λ f. choice_of f >>= λ c. done (says.Fill s c)) (always (expected.Form ∷ [])) (λ f. always (choice_wants f))
    (λ x. expected.Form ∷ choice_wants (form_in x)) form_good (λ f. last_step (choice_of f) (λ c. says.Fill s c) (choice_wants f) (choice_good f))
    (λ f words x left e. filled s f words (x, left) e))
    (λ s words x left e.
    makes_then form (λ f. choice_of f >>= λ c. done (says.Fill s c)) (λ y. tail_wants y ≡ expected.Slot ∷ expected.Form ∷ choice_wants (form_in y)) (λ f.
    makes_then (choice_of f) (λ c. done (says.Fill s c)) (λ y. tail_wants y ≡ expected.Slot ∷ expected.Form ∷ choice_wants (form_in y)) (λ c.
    makes_done (says.Fill s c) (λ y. tail_wants y ≡ expected.Slot ∷ expected.Form ∷ choice_wants (form_in y)) refl)) words (x, left) e)

ask_good : (s : Slot) → Good (ask_of s) tail_wants
unfolding ask_of
ask_good s =
    then_good asked (λ n. question_of n >>= λ q. done (says.Ask s q)) (always (expected.Question ∷ [])) (λ n. always (asked_wants n)) tail_wants asked_good
    (λ n. last_step (question_of n) (λ q. says.Ask s q) (asked_wants n) (question_good n))
    (λ n words x left e. asks_for s n words (x, left) e)

-- a call of a number
call_good : (make : ℕ → Call) → ((q : ℕ) → tail_wants (says.Call (make q)) ≡ expected.Number ∷ []) → Good (number >>= λ q. done (says.Call (make q))) tail_wants
call_good make is =
    good_as (number >>= λ q. done (says.Call (make q))) (always (expected.Number ∷ [])) tail_wants
    (last_step number (λ q. says.Call (make q)) (expected.Number ∷ []) number_good)
    (makes_then number (λ q. done (says.Call (make q))) (λ y. tail_wants y ≡ expected.Number ∷ []) (λ q.
    makes_done (says.Call (make q)) (λ y. tail_wants y ≡ expected.Number ∷ []) (is q)))

alone_good : (x : Said) → tail_wants x ≡ [] → Good (done x) tail_wants
alone_good x is = good_as (done x) (always []) tail_wants (done_good x) (makes_done x (λ y. tail_wants y ≡ []) is)

sentence_good : (n : Name) → Good (sentence_of n) tail_wants
unfolding sentence_of
sentence_good names.Open = open_good
sentence_good names.Pair = pair_good
sentence_good names.Fill = fill_good
sentence_good names.Turn =
    good_as (slot >>= λ s. done (says.Turn s)) (always (expected.Slot ∷ [])) tail_wants
    (last_step slot (λ s. says.Turn s) (expected.Slot ∷ []) slot_good)
    (makes_then slot (λ s. done (says.Turn s)) (λ y. tail_wants y ≡ expected.Slot ∷ []) (λ s.
    makes_done (says.Turn s) (λ y. tail_wants y ≡ expected.Slot ∷ []) refl))
sentence_good names.Level =
    good_as (slot >>= λ s. number >>= λ a. number >>= λ b. done (says.Level s a b)) (always (expected.Slot ∷ expected.Number ∷ expected.Number ∷ [])) tail_wants
    (steps slot (λ s. number >>= λ a. number >>= λ b. done (says.Level s a b)) (expected.Slot ∷ []) (expected.Number ∷ expected.Number ∷ []) slot_good (λ s.
    steps number (λ a. number >>= λ b. done (says.Level s a b)) (expected.Number ∷ []) (expected.Number ∷ []) number_good (λ a.
    last_step number (λ b. says.Level s a b) (expected.Number ∷ []) number_good)))
    (makes_then slot (λ s. number >>= λ a. number >>= λ b. done (says.Level s a b)) (λ y. tail_wants y ≡ expected.Slot ∷ expected.Number ∷ expected.Number ∷ []) (λ s.
    makes_then number (λ a. number >>= λ b. done (says.Level s a b)) (λ y. tail_wants y ≡ expected.Slot ∷ expected.Number ∷ expected.Number ∷ []) (λ a.
    makes_then number (λ b. done (says.Level s a b)) (λ y. tail_wants y ≡ expected.Slot ∷ expected.Number ∷ expected.Number ∷ []) (λ b.
    makes_done (says.Level s a b) (λ y. tail_wants y ≡ expected.Slot ∷ expected.Number ∷ expected.Number ∷ []) refl))))
sentence_good names.Free = ask_good slots.Free
sentence_good names.Class = ask_good slots.Class
sentence_good names.Round = alone_good says.Round refl
sentence_good names.Next = alone_good (says.Call calls.Next) refl
sentence_good names.Sheet =
    good_as (sheet_number >>= λ n. done (says.Call (calls.Sheet n))) (always (expected.SheetNumber ∷ [])) tail_wants
    (last_step sheet_number (λ n. says.Call (calls.Sheet n)) (expected.SheetNumber ∷ []) sheet_good)
    (makes_then sheet_number (λ n. done (says.Call (calls.Sheet n))) (λ y. tail_wants y ≡ expected.SheetNumber ∷ []) (λ n.
    makes_done (says.Call (calls.Sheet n)) (λ y. tail_wants y ≡ expected.SheetNumber ∷ []) refl))
sentence_good names.Go = call_good calls.Go (λ q. refl)
sentence_good names.Count =
    good_as (number >>= λ a. number >>= λ b. done (says.Call (calls.Count a b))) (always (expected.Number ∷ expected.Number ∷ [])) tail_wants
    (steps number (λ a. number >>= λ b. done (says.Call (calls.Count a b))) (expected.Number ∷ []) (expected.Number ∷ []) number_good (λ a.
    last_step number (λ b. says.Call (calls.Count a b)) (expected.Number ∷ []) number_good))
    (makes_then number (λ a. number >>= λ b. done (says.Call (calls.Count a b))) (λ y. tail_wants y ≡ expected.Number ∷ expected.Number ∷ []) (λ a.
    makes_then number (λ b. done (says.Call (calls.Count a b))) (λ y. tail_wants y ≡ expected.Number ∷ expected.Number ∷ []) (λ b.
    makes_done (says.Call (calls.Count a b)) (λ y. tail_wants y ≡ expected.Number ∷ expected.Number ∷ []) refl)))
sentence_good names.Nearest = call_good calls.Nearest (λ q. refl)
sentence_good names.Sign = call_good calls.Sign (λ q. refl)
sentence_good names.Pick = call_good calls.Pick (λ q. refl)
sentence_good names.Close = alone_good says.Close refl

-- ---- all of the words

whole_good : Good (name >>= sentence_of) (λ x. expected.Command ∷ tail_wants x)
whole_good =
    then_good name sentence_of (always (expected.Command ∷ [])) (λ n. tail_wants) (λ x. expected.Command ∷ tail_wants x) name_good sentence_good
    (λ n words x left e. refl)

ended_err : (read : Result (Said × List (List ℕ)) Expected) (e : Expected) → ended read ≡ Err e
    → (read ≡ Err e) ⊎ ((x : Said) × (word : List ℕ) × (words : List (List ℕ)) × (read ≡ Ok (x, word ∷ words)) × (expected.End ≡ e))
ended_err (Err d) e h = let same : d ≡ e = cc in inl (ap (λ (c : Expected). Err c) same)
ended_err (Ok (x, [])) e h = absurd cc
ended_err (Ok (x, word ∷ words)) e h = inr (x, word, words, refl, cc)

not_ended : (x y : Said) (word : List ℕ) (words : List (List ℕ)) → ended (Ok (x, word ∷ words)) ≡ Ok y → ⊥
not_ended x y word words h = cc

-- a command and then a further word
too_many : (words : List (List ℕ)) (x : Said) (word : List ℕ) (rest : List (List ℕ)) → (name >>= sentence_of) words ≡ Ok (x, word ∷ rest) → StopsAt words expected.End
unfolding reading
too_many words x word rest h =
    let f = whole_good.fronts words x (word ∷ rest) h in
    let long : length words ≡ length f.front + length (word ∷ rest) = ap length f.parts ∙ length-append f.front (word ∷ rest) in
    let before : take (length f.front) words ≡ f.front = ap (take (length f.front)) f.parts ∙ take_at f.front (word ∷ rest) (length f.front) refl in
    let one : suc (length f.front) ≡ length f.front + 1 = omega arith in
    let with_word : take (suc (length f.front)) words ≡ f.front ++ word ∷ [] =
    ap (λ (k : ℕ). take k words) one ∙ ap (take (length f.front + 1)) f.parts ∙ take-front f.front (word ∷ rest) 1 in
    let end : wanted_at (wants x) (length f.front + 0) ≡ Some expected.End =
    wanted_at-right f.front (expected.Command ∷ tail_wants x) (expected.End ∷ []) 0 expected.End f.places refl in
    let here : length f.front + 0 ≡ length f.front = omega arith in
    record {
      at = length f.front;
      within = omega (arith, long);
      command = x;
      more = [];
      begins = ap (λ (ws : List (List ℕ)). ended ((name >>= sentence_of) (ws ++ []))) before ∙ ap ended (f.again []);
      wanted = subst (λ (k : ℕ). wanted_at (wants x) k ≡ Some expected.End) here end;
      unfit = λ lt others y k.
          let read : (name >>= sentence_of) (take (suc (length f.front)) words ++ others) ≡ Ok (x, word ∷ others) =
          ap (λ (ws : List (List ℕ)). (name >>= sentence_of) (ws ++ others)) with_word
          ∙ ap (name >>= sentence_of) (append_assoc f.front (word ∷ []) others) ∙ f.again (word ∷ others) in
          absurd (not_ended x y word others (sym (ap ended read) ∙ k));
    }

pub reading_stops : (words : List (List ℕ)) (e : Expected) → reading words ≡ Err e → StopsAt words e
unfolding reading
reading_stops words e h =
    elim (ended_err ((name >>= sentence_of) words) e h) [
      | inl stopped ↦
          let s = whole_good.stops words e stopped in
          record {
            at = s.at;
            within = s.within;
            command = s.x;
            more = s.more;
            begins = ap ended s.begins;
            wanted = wanted_at-left (expected.Command ∷ tail_wants s.x) (expected.End ∷ []) s.at e s.kind;
            unfit = λ lt others x k. s.unfit lt others x [] (ended_ok ((name >>= sentence_of) (take (suc s.at) words ++ others)) x k);
          }
      | inr more ↦ subst (StopsAt words) more.4 (too_many words more.0 more.1 more.2 more.3)
    ]
