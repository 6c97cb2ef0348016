-- Whole commands: what was read is said, and what is said is read.
use Rattle.std.proofs.Common.{◌≡◌, ℕ, List, [], ◌∷◌, ◌++◌, Result, Ok, Err, refl, sym, ap, subst, ◌∙◌, append_assoc}
use Rattle.std.proofs.lemmas.List.{append-nil}
use Rattle.faults.specs.Texts.{form_name}
use Rattle.faults.specs.declared.fault.Form.{Form}
use Rattle.forms.specs.Choices.{form_of}
use Rattle.forms.specs.Telling.{choice_told}
use Rattle.forms.specs.declared.choice.Choice.{Choice}
use Rattle.replay.specs.declared.calls.Call.{Call}
use Rattle.replay.specs.declared.calls.Call.TheVariants as calls
use Rattle.commands.specs.declared.command.Question.{Question}
use Rattle.commands.specs.declared.command.Slot.{Slot}
use Rattle.commands.specs.declared.command.Slot.TheVariants as slots
use Rattle.commands.specs.declared.expected.Expected.{Expected}
use Rattle.commands.specs.declared.names.Name.TheVariants as names
use Rattle.commands.specs.declared.names.Name as named
use Rattle.commands.specs.Kinds.{name, slot, form, asked, number, sheet_number}
use Rattle.commands.specs.Reading.{Reader, ◌>>=◌, done, ended}
use Rattle.commands.specs.Said as says
use Rattle.commands.specs.Said.{Said, Written}
use Rattle.commands.specs.Sentences.{index_of, choice_of, question_of, ask_of, sentence_of, reading}
use Rattle.commands.specs.Writing.{Piece, Name, Number, SayFirst, SayAll, slot_text, form_piece, index_pieces, choice_pieces, question_pieces, pieces, IsFull, IsWhole}
use Rattle.commands.proofs.Steps.{SayFirst-append, followed_ok, read_is}
use Rattle.commands.proofs.Words.{name_text, name_keeps, slot_keeps, form_keeps, asked_keeps, number_keeps, sheet_keeps, name_hears, slot_hears, form_hears, number_hears, sheet_hears}
use Rattle.commands.proofs.Written.{index_keeps, index_hears}
use Rattle.commands.proofs.Spoken.{question_keeps, ask_hears, choice_keeps, choice_hears}

-- two steps as one, and then what is made of them
pub then_done : {A B C : Type 0} (first : Reader A) (second : A → Reader B) (make : B → C) (words : List (List ℕ)) (y : B) (left : List (List ℕ))
    → (first >>= second) words ≡ Ok (y, left) → (first >>= λ x. second x >>= λ z. done (make z)) words ≡ Ok (make y, left)
then_done first second make words y left e =
    let a = followed_ok (first words) second (y, left) e in
    rw (a.1, a.2) refl

-- ---- what was read is said

-- a command was read from the front of these words
abbrev IsHeard : List (List ℕ) → Said × List (List ℕ) → Type 0
IsHeard front x = SayFirst (pieces x.0) front x.1 × IsWhole x.0

-- a call of a number
numbered : (make : ℕ → Call) (n : named.Name) → ((q : ℕ) → pieces (says.Call (make q)) ≡ Name (name_text n) ∷ Number q ∷ []) → ((q : ℕ) → IsWhole (says.Call (make q)))
    → (front words : List (List ℕ)) (x : Said × List (List ℕ)) → SayFirst (Name (name_text n) ∷ []) front words
    → (number >>= λ q. done (says.Call (make q))) words ≡ Ok x → IsHeard front x
numbered make n is whole front words x heard e =
    let a = followed_ok (number words) (λ q. done (says.Call (make q))) x e in
    subst (IsHeard front) (read_is (says.Call (make a.0.0), a.0.1) x a.2) (
      subst (λ (ps : List Piece). SayFirst ps front a.0.1) (sym (is a.0.0))
          (SayFirst-append (Name (name_text n) ∷ []) (Number a.0.0 ∷ []) front words a.0.1 heard (number_keeps words a.0.0 a.0.1 a.1)),
      whole a.0.0,
    )

-- the form of an index is said by the form that was read
formed : (w : Written) (f : Form) (words left : List (List ℕ)) → form_of (choice_told w.told) ≡ f → SayFirst (Name (form_name f) ∷ []) words left → SayFirst (form_piece w ∷ []) words left
formed w f words left is h = rw is h

opened : (s : Slot) (w : Written) (front words a b left : List (List ℕ))
    → SayFirst (Name (name_text names.Open) ∷ []) front words → SayFirst (Name (slot_text s) ∷ []) words a → SayFirst (form_piece w ∷ []) a b
    → SayFirst (index_pieces w) b left → SayFirst (pieces (says.Open s w)) front left
opened s w front words a b left p q r t =
    let index = SayFirst-append (form_piece w ∷ []) (index_pieces w) a b left r t in
    let behind = SayFirst-append (Name (slot_text s) ∷ []) (form_piece w ∷ index_pieces w) words a left q index in
    SayFirst-append (Name (name_text names.Open) ∷ []) (Name (slot_text s) ∷ form_piece w ∷ index_pieces w) front words left p behind

open_keeps : (front words : List (List ℕ)) (x : Said × List (List ℕ)) → SayFirst (Name (name_text names.Open) ∷ []) front words
    → (slot >>= λ s. form >>= λ f. index_of f >>= λ index. done (says.Open s index)) words ≡ Ok x → IsHeard front x
open_keeps front words x heard e =
    let a = followed_ok (slot words) (λ s. form >>= λ f. index_of f >>= λ index. done (says.Open s index)) x e in
    let b = followed_ok (form a.0.1) (λ f. index_of f >>= λ index. done (says.Open a.0.0 index)) x a.2 in
    let c = followed_ok (index_of b.0.0 b.0.1) (λ index. done (says.Open a.0.0 index)) x b.2 in
    let i = index_keeps b.0.0 b.0.1 c.0 c.1 in
    subst (IsHeard front) (read_is (says.Open a.0.0 c.0.0, c.0.1) x c.2) (
      opened a.0.0 c.0.0 front words a.0.1 b.0.1 c.0.1 heard (slot_keeps words a.0.0 a.0.1 a.1)
          (formed c.0.0 b.0.0 a.0.1 b.0.1 i.2 (form_keeps a.0.1 b.0.0 b.0.1 b.1)) i.0,
      i.1,
    )

paired : (v w : Written) (front words a b left : List (List ℕ))
    → SayFirst (Name (name_text names.Pair) ∷ []) front words → SayFirst (form_piece v ∷ []) words a
    → SayFirst (index_pieces v) a b → SayFirst (index_pieces w) b left → SayFirst (pieces (says.Pair v w)) front left
paired v w front words a b left p q r t =
    let both = SayFirst-append (index_pieces v) (index_pieces w) a b left r t in
    let behind = SayFirst-append (form_piece v ∷ []) (index_pieces v ++ index_pieces w) words a left q both in
    SayFirst-append (Name (name_text names.Pair) ∷ []) (form_piece v ∷ (index_pieces v ++ index_pieces w)) front words left p behind

pair_keeps : (front words : List (List ℕ)) (x : Said × List (List ℕ)) → SayFirst (Name (name_text names.Pair) ∷ []) front words
    → (form >>= λ f. index_of f >>= λ free. index_of f >>= λ class. done (says.Pair free class)) words ≡ Ok x → IsHeard front x
pair_keeps front words x heard e =
    let a = followed_ok (form words) (λ f. index_of f >>= λ free. index_of f >>= λ class. done (says.Pair free class)) x e in
    let b = followed_ok (index_of a.0.0 a.0.1) (λ free. index_of a.0.0 >>= λ class. done (says.Pair free class)) x a.2 in
    let c = followed_ok (index_of a.0.0 b.0.1) (λ class. done (says.Pair b.0.0 class)) x b.2 in
    let i = index_keeps a.0.0 a.0.1 b.0 b.1 in
    let j = index_keeps a.0.0 b.0.1 c.0 c.1 in
    subst (IsHeard front) (read_is (says.Pair b.0.0 c.0.0, c.0.1) x c.2) (
      paired b.0.0 c.0.0 front words a.0.1 b.0.1 c.0.1 heard (formed b.0.0 a.0.0 words a.0.1 i.2 (form_keeps words a.0.0 a.0.1 a.1)) i.0 j.0,
      (i.1, j.1, j.2 ∙ sym i.2),
    )

fill_keeps : (front words : List (List ℕ)) (x : Said × List (List ℕ)) → SayFirst (Name (name_text names.Fill) ∷ []) front words
    → (slot >>= λ s. form >>= λ f. choice_of f >>= λ choice. done (says.Fill s choice)) words ≡ Ok x → IsHeard front x
fill_keeps front words x heard e =
    let a = followed_ok (slot words) (λ s. form >>= λ f. choice_of f >>= λ choice. done (says.Fill s choice)) x e in
    let b = followed_ok (form a.0.1) (λ f. choice_of f >>= λ choice. done (says.Fill a.0.0 choice)) x a.2 in
    let c = followed_ok (choice_of b.0.0 b.0.1) (λ choice. done (says.Fill a.0.0 choice)) x b.2 in
    let choice = choice_keeps b.0.0 b.0.1 c.0 a.0.1 (form_keeps a.0.1 b.0.0 b.0.1 b.1) c.1 in
    let behind = SayFirst-append (Name (slot_text a.0.0) ∷ []) (choice_pieces c.0.0) words a.0.1 c.0.1 (slot_keeps words a.0.0 a.0.1 a.1) choice in
    subst (IsHeard front) (read_is (says.Fill a.0.0 c.0.0, c.0.1) x c.2)
    (SayFirst-append (Name (name_text names.Fill) ∷ []) (Name (slot_text a.0.0) ∷ choice_pieces c.0.0) front words c.0.1 heard behind, tt)

turn_keeps : (front words : List (List ℕ)) (x : Said × List (List ℕ)) → SayFirst (Name (name_text names.Turn) ∷ []) front words
    → (slot >>= λ s. done (says.Turn s)) words ≡ Ok x → IsHeard front x
turn_keeps front words x heard e =
    let a = followed_ok (slot words) (λ s. done (says.Turn s)) x e in
    subst (IsHeard front) (read_is (says.Turn a.0.0, a.0.1) x a.2)
    (SayFirst-append (Name (name_text names.Turn) ∷ []) (Name (slot_text a.0.0) ∷ []) front words a.0.1 heard (slot_keeps words a.0.0 a.0.1 a.1), tt)

level_keeps : (front words : List (List ℕ)) (x : Said × List (List ℕ)) → SayFirst (Name (name_text names.Level) ∷ []) front words
    → (slot >>= λ s. number >>= λ a. number >>= λ b. done (says.Level s a b)) words ≡ Ok x → IsHeard front x
level_keeps front words x heard e =
    let s = followed_ok (slot words) (λ s. number >>= λ a. number >>= λ b. done (says.Level s a b)) x e in
    let a = followed_ok (number s.0.1) (λ a. number >>= λ b. done (says.Level s.0.0 a b)) x s.2 in
    let b = followed_ok (number a.0.1) (λ b. done (says.Level s.0.0 a.0.0 b)) x a.2 in
    let two = SayFirst-append (Number a.0.0 ∷ []) (Number b.0.0 ∷ []) s.0.1 a.0.1 b.0.1 (number_keeps s.0.1 a.0.0 a.0.1 a.1) (number_keeps a.0.1 b.0.0 b.0.1 b.1) in
    let behind = SayFirst-append (Name (slot_text s.0.0) ∷ []) (Number a.0.0 ∷ Number b.0.0 ∷ []) words s.0.1 b.0.1 (slot_keeps words s.0.0 s.0.1 s.1) two in
    subst (IsHeard front) (read_is (says.Level s.0.0 a.0.0 b.0.0, b.0.1) x b.2)
    (SayFirst-append (Name (name_text names.Level) ∷ []) (Name (slot_text s.0.0) ∷ Number a.0.0 ∷ Number b.0.0 ∷ []) front words b.0.1 heard behind, tt)

ask_of_keeps : (s : Slot) (front words : List (List ℕ)) (x : Said × List (List ℕ)) → SayFirst (Name (slot_text s) ∷ []) front words
    → ask_of s words ≡ Ok x → IsHeard front x
unfolding ask_of
ask_of_keeps s front words x heard e =
    let a = followed_ok (asked words) (λ n. question_of n >>= λ q. done (says.Ask s q)) x e in
    let b = followed_ok (question_of a.0.0 a.0.1) (λ q. done (says.Ask s q)) x a.2 in
    let q = question_keeps a.0.0 words a.0.1 b.0 (asked_keeps words a.0.0 a.0.1 a.1) b.1 in
    subst (IsHeard front) (read_is (says.Ask s b.0.0, b.0.1) x b.2)
    (SayFirst-append (Name (slot_text s) ∷ []) (question_pieces b.0.0) front words b.0.1 heard q, tt)

sheet_of_keeps : (front words : List (List ℕ)) (x : Said × List (List ℕ)) → SayFirst (Name (name_text names.Sheet) ∷ []) front words
    → (sheet_number >>= λ n. done (says.Call (calls.Sheet n))) words ≡ Ok x → IsHeard front x
sheet_of_keeps front words x heard e =
    let a = followed_ok (sheet_number words) (λ n. done (says.Call (calls.Sheet n))) x e in
    let n = sheet_keeps words a.0.0 a.0.1 a.1 in
    subst (IsHeard front) (read_is (says.Call (calls.Sheet a.0.0), a.0.1) x a.2)
    (SayFirst-append (Name (name_text names.Sheet) ∷ []) (Number a.0.0 ∷ []) front words a.0.1 heard n.0, n.1)

count_keeps : (front words : List (List ℕ)) (x : Said × List (List ℕ)) → SayFirst (Name (name_text names.Count) ∷ []) front words
    → (number >>= λ a. number >>= λ b. done (says.Call (calls.Count a b))) words ≡ Ok x → IsHeard front x
count_keeps front words x heard e =
    let a = followed_ok (number words) (λ a. number >>= λ b. done (says.Call (calls.Count a b))) x e in
    let b = followed_ok (number a.0.1) (λ b. done (says.Call (calls.Count a.0.0 b))) x a.2 in
    let two = SayFirst-append (Number a.0.0 ∷ []) (Number b.0.0 ∷ []) words a.0.1 b.0.1 (number_keeps words a.0.0 a.0.1 a.1) (number_keeps a.0.1 b.0.0 b.0.1 b.1) in
    subst (IsHeard front) (read_is (says.Call (calls.Count a.0.0 b.0.0), b.0.1) x b.2)
    (SayFirst-append (Name (name_text names.Count) ∷ []) (Number a.0.0 ∷ Number b.0.0 ∷ []) front words b.0.1 heard two, tt)

sentence_keeps : (n : named.Name) (front words : List (List ℕ)) (x : Said × List (List ℕ)) → SayFirst (Name (name_text n) ∷ []) front words
    → sentence_of n words ≡ Ok x → IsHeard front x
unfolding sentence_of
sentence_keeps names.Open front words x heard e = open_keeps front words x heard e
sentence_keeps names.Pair front words x heard e = pair_keeps front words x heard e
sentence_keeps names.Fill front words x heard e = fill_keeps front words x heard e
sentence_keeps names.Turn front words x heard e = turn_keeps front words x heard e
sentence_keeps names.Level front words x heard e = level_keeps front words x heard e
sentence_keeps names.Free front words x heard e = ask_of_keeps slots.Free front words x heard e
sentence_keeps names.Class front words x heard e = ask_of_keeps slots.Class front words x heard e
sentence_keeps names.Round front words x heard e = subst (IsHeard front) (read_is (says.Round, words) x e) (heard, tt)
sentence_keeps names.Next front words x heard e = subst (IsHeard front) (read_is (says.Call calls.Next, words) x e) (heard, tt)
sentence_keeps names.Sheet front words x heard e = sheet_of_keeps front words x heard e
sentence_keeps names.Go front words x heard e = numbered calls.Go names.Go (λ q. refl) (λ q. tt) front words x heard e
sentence_keeps names.Count front words x heard e = count_keeps front words x heard e
sentence_keeps names.Nearest front words x heard e = numbered calls.Nearest names.Nearest (λ q. refl) (λ q. tt) front words x heard e
sentence_keeps names.Sign front words x heard e = numbered calls.Sign names.Sign (λ q. refl) (λ q. tt) front words x heard e
sentence_keeps names.Pick front words x heard e = numbered calls.Pick names.Pick (λ q. refl) (λ q. tt) front words x heard e
sentence_keeps names.Close front words x heard e = subst (IsHeard front) (read_is (says.Close, words) x e) (heard, tt)

-- all of the words
pub ended_ok : (read : Result (Said × List (List ℕ)) Expected) (x : Said) → ended read ≡ Ok x → read ≡ Ok (x, [])
ended_ok (Err e) x h = absurd cc
ended_ok (Ok (y, [])) x h = let is : y ≡ x = read_is y x h in ap (λ (z : Said). Ok (z, [])) is
ended_ok (Ok (y, word ∷ words)) x h = absurd cc

pub reading_keeps : (words : List (List ℕ)) (x : Said) → reading words ≡ Ok x → IsWhole x × SayAll (pieces x) words
unfolding reading
reading_keeps words x e =
    let whole = ended_ok ((name >>= sentence_of) words) x e in
    let a = followed_ok (name words) sentence_of (x, []) whole in
    let h = sentence_keeps a.0.0 words a.0.1 (x, []) (name_keeps words a.0.0 a.0.1 a.1) a.2 in
    (h.1, h.0)

-- ---- what is said is read

-- a command is read from these words, and those behind it are left
abbrev Heard : Said → List Piece → List (List ℕ) → List (List ℕ) → Type 0
Heard x ps words left = (mid : List (List ℕ)) × ((name >>= sentence_of) words ≡ Ok (x, mid)) × SayFirst ps mid left

open_hears : (s : Slot) (w : Written) (ps : List Piece) (words left : List (List ℕ)) → IsFull w
    → SayFirst (pieces (says.Open s w) ++ ps) words left → Heard (says.Open s w) ps words left
unfolding sentence_of
open_hears s w ps words left full h =
    let a = name_hears names.Open (Name (slot_text s) ∷ form_piece w ∷ (index_pieces w ++ ps)) words left h in
    let b = slot_hears s (form_piece w ∷ (index_pieces w ++ ps)) a.0 left a.2 in
    let c = form_hears (form_of (choice_told w.told)) (index_pieces w ++ ps) b.0 left b.2 in
    let d = index_hears w ps c.0 left full c.2 in
    (d.0, rw (a.1, b.1, c.1, d.1) refl, d.2)

pair_hears : (v w : Written) (ps : List Piece) (words left : List (List ℕ)) → IsFull v → IsFull w
    → form_of (choice_told w.told) ≡ form_of (choice_told v.told)
    → SayFirst (pieces (says.Pair v w) ++ ps) words left → Heard (says.Pair v w) ps words left
unfolding sentence_of
pair_hears v w ps words left full_v full_w same h =
    let regrouped : SayFirst (Name (name_text names.Pair) ∷ form_piece v ∷ (index_pieces v ++ (index_pieces w ++ ps))) words left =
    subst (λ (qs : List Piece). SayFirst (Name (name_text names.Pair) ∷ form_piece v ∷ qs) words left) (append_assoc (index_pieces v) (index_pieces w) ps) h in
    let a = name_hears names.Pair (form_piece v ∷ (index_pieces v ++ (index_pieces w ++ ps))) words left regrouped in
    let b = form_hears (form_of (choice_told v.told)) (index_pieces v ++ (index_pieces w ++ ps)) a.0 left a.2 in
    let c = index_hears v (index_pieces w ++ ps) b.0 left full_v b.2 in
    let d = index_hears w ps c.0 left full_w c.2 in
    let second : index_of (form_of (choice_told v.told)) c.0 ≡ Ok (w, d.0) = subst (λ (f : Form). index_of f c.0 ≡ Ok (w, d.0)) same d.1 in
    (d.0, rw (a.1, b.1, c.1, second) refl, d.2)

fill_hears : (s : Slot) (choice : Choice) (ps : List Piece) (words left : List (List ℕ))
    → SayFirst (pieces (says.Fill s choice) ++ ps) words left → Heard (says.Fill s choice) ps words left
unfolding sentence_of
fill_hears s choice ps words left h =
    let a = name_hears names.Fill (Name (slot_text s) ∷ (choice_pieces choice ++ ps)) words left h in
    let b = slot_hears s (choice_pieces choice ++ ps) a.0 left a.2 in
    let c = choice_hears choice ps b.0 left b.2 in
    (c.0, rw (a.1, b.1) (then_done form choice_of (λ x. says.Fill s x) b.0 choice c.0 c.1), c.2)

ask_of_hears : (s : Slot) (q : Question) (ps : List Piece) (words left : List (List ℕ)) → SayFirst (question_pieces q ++ ps) words left
    → (mid : List (List ℕ)) × (ask_of s words ≡ Ok (says.Ask s q, mid)) × SayFirst ps mid left
unfolding ask_of
ask_of_hears s q ps words left h =
    let a = ask_hears q ps words left h in
    (a.0, then_done asked question_of (λ x. says.Ask s x) words q a.0 a.1, a.2)

command_hears : (x : Said) (ps : List Piece) (words left : List (List ℕ)) → IsWhole x → SayFirst (pieces x ++ ps) words left → Heard x ps words left
unfolding sentence_of
command_hears (says.Open s w) ps words left whole h = open_hears s w ps words left whole h
command_hears (says.Pair v w) ps words left whole h = pair_hears v w ps words left whole.0 whole.1 whole.2 h
command_hears (says.Fill s choice) ps words left whole h = fill_hears s choice ps words left h
command_hears (says.Turn s) ps words left whole h =
    let a = name_hears names.Turn (Name (slot_text s) ∷ ps) words left h in
    let b = slot_hears s ps a.0 left a.2 in
    (b.0, rw (a.1, b.1) refl, b.2)
command_hears (says.Level s m n) ps words left whole h =
    let a = name_hears names.Level (Name (slot_text s) ∷ Number m ∷ Number n ∷ ps) words left h in
    let b = slot_hears s (Number m ∷ Number n ∷ ps) a.0 left a.2 in
    let c = number_hears m (Number n ∷ ps) b.0 left b.2 in
    let d = number_hears n ps c.0 left c.2 in
    (d.0, rw (a.1, b.1, c.1, d.1) refl, d.2)
command_hears (says.Ask slots.Free q) ps words left whole h =
    let a = name_hears names.Free (question_pieces q ++ ps) words left h in
    let b = ask_of_hears slots.Free q ps a.0 left a.2 in
    (b.0, rw (a.1, b.1) refl, b.2)
command_hears (says.Ask slots.Class q) ps words left whole h =
    let a = name_hears names.Class (question_pieces q ++ ps) words left h in
    let b = ask_of_hears slots.Class q ps a.0 left a.2 in
    (b.0, rw (a.1, b.1) refl, b.2)
command_hears says.Round ps words left whole h = let a = name_hears names.Round ps words left h in (a.0, rw a.1 refl, a.2)
command_hears says.Close ps words left whole h = let a = name_hears names.Close ps words left h in (a.0, rw a.1 refl, a.2)
command_hears (says.Call calls.Next) ps words left whole h = let a = name_hears names.Next ps words left h in (a.0, rw a.1 refl, a.2)
command_hears (says.Call (calls.Sheet n)) ps words left whole h =
    let a = name_hears names.Sheet (Number n ∷ ps) words left h in
    let b = sheet_hears n ps a.0 left whole a.2 in
    (b.0, rw (a.1, b.1) refl, b.2)
command_hears (says.Call (calls.Go q)) ps words left whole h =
    let a = name_hears names.Go (Number q ∷ ps) words left h in
    let b = number_hears q ps a.0 left a.2 in
    (b.0, rw (a.1, b.1) refl, b.2)
command_hears (says.Call (calls.Count m n)) ps words left whole h =
    let a = name_hears names.Count (Number m ∷ Number n ∷ ps) words left h in
    let b = number_hears m (Number n ∷ ps) a.0 left a.2 in
    let c = number_hears n ps b.0 left b.2 in
    (c.0, rw (a.1, b.1, c.1) refl, c.2)
command_hears (says.Call (calls.Nearest q)) ps words left whole h =
    let a = name_hears names.Nearest (Number q ∷ ps) words left h in
    let b = number_hears q ps a.0 left a.2 in
    (b.0, rw (a.1, b.1) refl, b.2)
command_hears (says.Call (calls.Sign q)) ps words left whole h =
    let a = name_hears names.Sign (Number q ∷ ps) words left h in
    let b = number_hears q ps a.0 left a.2 in
    (b.0, rw (a.1, b.1) refl, b.2)
command_hears (says.Call (calls.Pick q)) ps words left whole h =
    let a = name_hears names.Pick (Number q ∷ ps) words left h in
    let b = number_hears q ps a.0 left a.2 in
    (b.0, rw (a.1, b.1) refl, b.2)

pub reading_hears : (words : List (List ℕ)) (x : Said) → IsWhole x → SayAll (pieces x) words → reading words ≡ Ok x
unfolding reading
reading_hears words x whole h =
    let a = command_hears x [] words [] whole (subst (λ (ps : List Piece). SayFirst ps words []) (sym (append-nil (pieces x))) h) in
    ap ended a.1 ∙ ap (λ (left : List (List ℕ)). ended (Ok (x, left))) a.2
