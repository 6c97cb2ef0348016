-- Questions and forms to fill: what was read is said, and what is said is read.
use Rattle.std.proofs.Common.{◌≡◌, ℕ, List, [], ◌∷◌, ◌++◌, Ok, refl, sym, subst}
use Rattle.faults.specs.Texts.{form_name}
use Rattle.faults.specs.declared.fault.Form.{Form}
use Rattle.faults.specs.declared.fault.Form.TheVariants as forms
use Rattle.forms.specs.declared.choice.Choice.{Choice}
use Rattle.forms.specs.declared.choice.Choice.TheVariants as choices
use Rattle.sets.specs.declared.Sort.{Sort}
use Rattle.commands.specs.declared.command.Question.{Question}
use Rattle.commands.specs.declared.command.Question.TheVariants as questions
use Rattle.commands.specs.declared.names.Asked.{Asked}
use Rattle.commands.specs.declared.names.Asked.TheVariants as asks
use Rattle.commands.specs.Kinds.{asked, form, sort, number}
use Rattle.commands.specs.Reading.{◌>>=◌, done}
use Rattle.commands.specs.Sentences.{question_of, choice_of}
use Rattle.commands.specs.Writing.{Piece, Name, Number, SayFirst, sort_text, question_pieces, choice_pieces}
use Rattle.commands.proofs.Steps.{SayFirst-append, followed_ok, read_is}
use Rattle.commands.proofs.Words.{asked_text, sort_keeps, number_keeps, form_hears, asked_hears, sort_hears, number_hears}

-- ---- what was read is said, its name with it

-- a question by a number, and one by a sort and a number
numbered : (make : ℕ → Question) (x : Asked) → ((i : ℕ) → question_pieces (make i) ≡ Name (asked_text x) ∷ Number i ∷ [])
    → (front words : List (List ℕ)) (q : Question × List (List ℕ)) → SayFirst (Name (asked_text x) ∷ []) front words
    → (number >>= λ i. done (make i)) words ≡ Ok q → SayFirst (question_pieces q.0) front q.1
numbered make x is front words q named e =
    let a = followed_ok (number words) (λ i. done (make i)) q e in
    subst (λ (r : Question × List (List ℕ)). SayFirst (question_pieces r.0) front r.1) (read_is (make a.0.0, a.0.1) q a.2)
    (subst (λ (ps : List Piece). SayFirst ps front a.0.1) (sym (is a.0.0))
    (SayFirst-append (Name (asked_text x) ∷ []) (Number a.0.0 ∷ []) front words a.0.1 named (number_keeps words a.0.0 a.0.1 a.1)))

sorted : (make : Sort → ℕ → Question) (x : Asked) → ((s : Sort) (i : ℕ) → question_pieces (make s i) ≡ Name (asked_text x) ∷ Name (sort_text s) ∷ Number i ∷ [])
    → (front words : List (List ℕ)) (q : Question × List (List ℕ)) → SayFirst (Name (asked_text x) ∷ []) front words
    → (sort >>= λ s. number >>= λ i. done (make s i)) words ≡ Ok q → SayFirst (question_pieces q.0) front q.1
sorted make x is front words q named e =
    let a = followed_ok (sort words) (λ s. number >>= λ i. done (make s i)) q e in
    let b = followed_ok (number a.0.1) (λ i. done (make a.0.0 i)) q a.2 in
    let behind = SayFirst-append (Name (sort_text a.0.0) ∷ []) (Number b.0.0 ∷ []) words a.0.1 b.0.1 (sort_keeps words a.0.0 a.0.1 a.1) (number_keeps a.0.1 b.0.0 b.0.1 b.1) in
    subst (λ (r : Question × List (List ℕ)). SayFirst (question_pieces r.0) front r.1) (read_is (make a.0.0 b.0.0, b.0.1) q b.2)
    (subst (λ (ps : List Piece). SayFirst ps front b.0.1) (sym (is a.0.0 b.0.0))
    (SayFirst-append (Name (asked_text x) ∷ []) (Name (sort_text a.0.0) ∷ Number b.0.0 ∷ []) front words b.0.1 named behind))

pub question_keeps : (x : Asked) (front words : List (List ℕ)) (q : Question × List (List ℕ)) → SayFirst (Name (asked_text x) ∷ []) front words
    → question_of x words ≡ Ok q → SayFirst (question_pieces q.0) front q.1
unfolding question_of
question_keeps asks.Last front words q named e =
    subst (λ (r : Question × List (List ℕ)). SayFirst (question_pieces r.0) front r.1) (read_is (questions.Last, words) q e) named
question_keeps asks.Holds front words q named e = numbered questions.Holds asks.Holds (λ i. refl) front words q named e
question_keeps asks.Next front words q named e = sorted questions.Next asks.Next (λ s i. refl) front words q named e
question_keeps asks.Previous front words q named e = sorted questions.Previous asks.Previous (λ s i. refl) front words q named e
question_keeps asks.Rank front words q named e = sorted questions.Rank asks.Rank (λ s i. refl) front words q named e
question_keeps asks.Select front words q named e = sorted questions.Select asks.Select (λ s i. refl) front words q named e

-- a form to fill
pub choice_keeps : (f : Form) (words : List (List ℕ)) (x : Choice × List (List ℕ)) (front : List (List ℕ)) → SayFirst (Name (form_name f) ∷ []) front words
    → choice_of f words ≡ Ok x → SayFirst (choice_pieces x.0) front x.1
unfolding choice_of
choice_keeps forms.Plain words x front named e =
    subst (λ (r : Choice × List (List ℕ)). SayFirst (choice_pieces r.0) front r.1) (read_is (choices.Plain, words) x e) named
choice_keeps forms.List words x front named e =
    subst (λ (r : Choice × List (List ℕ)). SayFirst (choice_pieces r.0) front r.1) (read_is (choices.List, words) x e) named
choice_keeps forms.Pioneer words x front named e =
    subst (λ (r : Choice × List (List ℕ)). SayFirst (choice_pieces r.0) front r.1) (read_is (choices.Pioneer, words) x e) named
choice_keeps forms.Zombit words x front named e =
    let a = followed_ok (number words) (λ size. done (choices.Zombit size)) x e in
    subst (λ (r : Choice × List (List ℕ)). SayFirst (choice_pieces r.0) front r.1) (read_is (choices.Zombit a.0.0, a.0.1) x a.2)
    (SayFirst-append (Name (form_name forms.Zombit) ∷ []) (Number a.0.0 ∷ []) front words a.0.1 named (number_keeps words a.0.0 a.0.1 a.1))

-- ---- what is said is read

pub ask_hears : (q : Question) (ps : List Piece) (words left : List (List ℕ)) → SayFirst (question_pieces q ++ ps) words left
    → (mid : List (List ℕ)) × ((asked >>= question_of) words ≡ Ok (q, mid)) × SayFirst ps mid left
unfolding question_of
ask_hears questions.Last ps words left h =
    let a = asked_hears asks.Last ps words left h in
    (a.0, rw a.1 refl, a.2)
ask_hears (questions.Holds i) ps words left h =
    let a = asked_hears asks.Holds (Number i ∷ ps) words left h in
    let b = number_hears i ps a.0 left a.2 in
    (b.0, rw (a.1, b.1) refl, b.2)
ask_hears (questions.Next x i) ps words left h =
    let a = asked_hears asks.Next (Name (sort_text x) ∷ Number i ∷ ps) words left h in
    let b = sort_hears x (Number i ∷ ps) a.0 left a.2 in
    let c = number_hears i ps b.0 left b.2 in
    (c.0, rw (a.1, b.1, c.1) refl, c.2)
ask_hears (questions.Previous x i) ps words left h =
    let a = asked_hears asks.Previous (Name (sort_text x) ∷ Number i ∷ ps) words left h in
    let b = sort_hears x (Number i ∷ ps) a.0 left a.2 in
    let c = number_hears i ps b.0 left b.2 in
    (c.0, rw (a.1, b.1, c.1) refl, c.2)
ask_hears (questions.Rank x i) ps words left h =
    let a = asked_hears asks.Rank (Name (sort_text x) ∷ Number i ∷ ps) words left h in
    let b = sort_hears x (Number i ∷ ps) a.0 left a.2 in
    let c = number_hears i ps b.0 left b.2 in
    (c.0, rw (a.1, b.1, c.1) refl, c.2)
ask_hears (questions.Select x i) ps words left h =
    let a = asked_hears asks.Select (Name (sort_text x) ∷ Number i ∷ ps) words left h in
    let b = sort_hears x (Number i ∷ ps) a.0 left a.2 in
    let c = number_hears i ps b.0 left b.2 in
    (c.0, rw (a.1, b.1, c.1) refl, c.2)

-- the form is read before
pub choice_hears : (x : Choice) (ps : List Piece) (words left : List (List ℕ)) → SayFirst (choice_pieces x ++ ps) words left
    → (mid : List (List ℕ)) × ((form >>= choice_of) words ≡ Ok (x, mid)) × SayFirst ps mid left
unfolding choice_of
choice_hears choices.Plain ps words left h = let a = form_hears forms.Plain ps words left h in (a.0, rw a.1 refl, a.2)
choice_hears choices.List ps words left h = let a = form_hears forms.List ps words left h in (a.0, rw a.1 refl, a.2)
choice_hears choices.Pioneer ps words left h = let a = form_hears forms.Pioneer ps words left h in (a.0, rw a.1 refl, a.2)
choice_hears (choices.Zombit size) ps words left h =
    let a = form_hears forms.Zombit (Number size ∷ ps) words left h in
    let b = number_hears size ps a.0 left a.2 in
    (b.0, rw (a.1, b.1) refl, b.2)
