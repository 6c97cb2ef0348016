-- An index: what was read is said, and what is said is read.
use Rattle.std.proofs.Common.{◌≡◌, ℕ, ◌+◌, List, [], ◌∷◌, ◌++◌, length, take, drop, Ok, refl, sym, ap, subst, ◌∙◌, append_assoc, arith}
use Rattle.std.proofs.lemmas.List.{take_all, take_at, drop_at, take-append-drop, length-append, length-take-le, length-drop, nil_from_length}
use Rattle.faults.specs.declared.fault.Form.{Form}
use Rattle.faults.specs.declared.fault.Form.TheVariants as forms
use Rattle.forms.specs.Choices.{form_of}
use Rattle.forms.specs.Telling.{choice_told}
use Rattle.forms.specs.declared.told.Told.{Told}
use Rattle.forms.specs.declared.told.Told.TheVariants as told
use Rattle.commands.specs.Kinds.{number, bytes, numbers}
use Rattle.commands.specs.Reading.{◌>>=◌, done}
use Rattle.commands.specs.Said.{Written, plain_written, list_written, zombit_written, pioneer_written}
use Rattle.commands.specs.Sentences.{plain_index, list_index, zombit_index, pioneer_index, index_of}
use Rattle.commands.specs.Writing.{Piece, Number, Bytes, Numbers, SayFirst, index_pieces, IsFull}
use Rattle.commands.proofs.Steps.{SayFirst-append, followed_ok, read_is}
use Rattle.commands.proofs.Words.{number_keeps, bytes_keeps, numbers_keeps, number_hears, bytes_hears, numbers_hears}

-- ---- the pieces of an index that was made of parts

plain_pieces : (last : ℕ) (bits : List ℕ) → index_pieces (plain_written last bits) ≡ Number last ∷ Bytes bits ∷ []
plain_pieces last bits = rw (take_all (length bits) bits (omega arith)) refl

list_pieces : (last : ℕ) (members : List ℕ) → index_pieces (list_written last members) ≡ Number last ∷ Numbers members ∷ []
list_pieces last members = rw (take_all (length members) members (omega arith)) refl

zombit_pieces : (last size : ℕ) (uniform marked mixed : List ℕ)
    → index_pieces (zombit_written last size uniform marked mixed) ≡ Number last ∷ Number size ∷ Bytes uniform ∷ Bytes marked ∷ Bytes mixed ∷ []
zombit_pieces last size uniform marked mixed =
    rw (
      append_assoc uniform marked mixed,
      take_at uniform (marked ++ mixed) (length uniform) refl,
      drop_at uniform (marked ++ mixed) (length uniform) refl,
      take_at marked mixed (length marked) refl,
      drop_at marked mixed (length marked) refl,
      take_all (length mixed) mixed (omega arith),
    ) refl

pioneer_pieces : (last count : ℕ) (starts sums : List ℕ)
    → index_pieces (pioneer_written last count starts sums) ≡ Number last ∷ Number count ∷ Bytes starts ∷ Bytes sums ∷ []
pioneer_pieces last count starts sums =
    rw (take_at starts sums (length starts) refl, drop_at starts sums (length starts) refl, take_all (length sums) sums (omega arith)) refl

-- whose memories they fill
zombit_full : (last size : ℕ) (uniform marked mixed : List ℕ) → IsFull (zombit_written last size uniform marked mixed)
zombit_full last size uniform marked mixed =
    (omega (arith, length-append (uniform ++ marked) mixed, length-append uniform marked), refl)

pioneer_full : (last count : ℕ) (starts sums : List ℕ) → IsFull (pioneer_written last count starts sums)
pioneer_full last count starts sums = (omega (arith, length-append starts sums), refl)

-- ---- what was read is said

-- an index of this form was read
abbrev pub IsRead : Form → List (List ℕ) → Written × List (List ℕ) → Type 0
IsRead f words x = SayFirst (index_pieces x.0) words x.1 × IsFull x.0 × (form_of (choice_told x.0.told) ≡ f)

-- pieces that are the same say the same
same_pieces : (ps qs : List Piece) (words left : List (List ℕ)) → ps ≡ qs → SayFirst qs words left → SayFirst ps words left
same_pieces ps qs words left same h = subst (λ (rs : List Piece). SayFirst rs words left) (sym same) h

-- the words of each part, one behind the other
plain_read : (last : ℕ) (bits : List ℕ) (words a left : List (List ℕ))
    → SayFirst (Number last ∷ []) words a → SayFirst (Bytes bits ∷ []) a left → IsRead forms.Plain words (plain_written last bits, left)
plain_read last bits words a left p q =
    (same_pieces _ _ words left (plain_pieces last bits) (SayFirst-append (Number last ∷ []) (Bytes bits ∷ []) words a left p q), (omega arith, refl), refl)

list_read : (last : ℕ) (members : List ℕ) (words a left : List (List ℕ))
    → SayFirst (Number last ∷ []) words a → SayFirst (Numbers members ∷ []) a left → IsRead forms.List words (list_written last members, left)
list_read last members words a left p q =
    (same_pieces _ _ words left (list_pieces last members) (SayFirst-append (Number last ∷ []) (Numbers members ∷ []) words a left p q), (refl, omega arith), refl)

zombit_read : (last size : ℕ) (uniform marked mixed : List ℕ) (words a b c d left : List (List ℕ))
    → SayFirst (Number last ∷ []) words a → SayFirst (Number size ∷ []) a b → SayFirst (Bytes uniform ∷ []) b c → SayFirst (Bytes marked ∷ []) c d
    → SayFirst (Bytes mixed ∷ []) d left → IsRead forms.Zombit words (zombit_written last size uniform marked mixed, left)
zombit_read last size uniform marked mixed words a b c d left p q r s t =
    let two = SayFirst-append (Bytes marked ∷ []) (Bytes mixed ∷ []) c d left s t in
    let parts = SayFirst-append (Bytes uniform ∷ []) (Bytes marked ∷ Bytes mixed ∷ []) b c left r two in
    let behind = SayFirst-append (Number size ∷ []) (Bytes uniform ∷ Bytes marked ∷ Bytes mixed ∷ []) a b left q parts in
    let said = SayFirst-append (Number last ∷ []) (Number size ∷ Bytes uniform ∷ Bytes marked ∷ Bytes mixed ∷ []) words a left p behind in
    (same_pieces _ _ words left (zombit_pieces last size uniform marked mixed) said, zombit_full last size uniform marked mixed, refl)

pioneer_read : (last count : ℕ) (starts sums : List ℕ) (words a b c left : List (List ℕ))
    → SayFirst (Number last ∷ []) words a → SayFirst (Number count ∷ []) a b → SayFirst (Bytes starts ∷ []) b c → SayFirst (Bytes sums ∷ []) c left
    → IsRead forms.Pioneer words (pioneer_written last count starts sums, left)
pioneer_read last count starts sums words a b c left p q r s =
    let parts = SayFirst-append (Bytes starts ∷ []) (Bytes sums ∷ []) b c left r s in
    let behind = SayFirst-append (Number count ∷ []) (Bytes starts ∷ Bytes sums ∷ []) a b left q parts in
    let said = SayFirst-append (Number last ∷ []) (Number count ∷ Bytes starts ∷ Bytes sums ∷ []) words a left p behind in
    (same_pieces _ _ words left (pioneer_pieces last count starts sums) said, pioneer_full last count starts sums, refl)

plain_keeps : (words : List (List ℕ)) (x : Written × List (List ℕ)) → plain_index words ≡ Ok x → IsRead forms.Plain words x
unfolding plain_index
plain_keeps words x e =
    let a = followed_ok (number words) (λ last. bytes >>= λ bits. done (plain_written last bits)) x e in
    let b = followed_ok (bytes a.0.1) (λ bits. done (plain_written a.0.0 bits)) x a.2 in
    subst (IsRead forms.Plain words) (read_is (plain_written a.0.0 b.0.0, b.0.1) x b.2)
    (plain_read a.0.0 b.0.0 words a.0.1 b.0.1 (number_keeps words a.0.0 a.0.1 a.1) (bytes_keeps a.0.1 b.0.0 b.0.1 b.1))

list_keeps : (words : List (List ℕ)) (x : Written × List (List ℕ)) → list_index words ≡ Ok x → IsRead forms.List words x
unfolding list_index
list_keeps words x e =
    let a = followed_ok (number words) (λ last. numbers >>= λ members. done (list_written last members)) x e in
    let b = followed_ok (numbers a.0.1) (λ members. done (list_written a.0.0 members)) x a.2 in
    subst (IsRead forms.List words) (read_is (list_written a.0.0 b.0.0, b.0.1) x b.2)
    (list_read a.0.0 b.0.0 words a.0.1 b.0.1 (number_keeps words a.0.0 a.0.1 a.1) (numbers_keeps a.0.1 b.0.0 b.0.1 b.1))

-- what follows the numbers of a zombit index, and of a pioneer index
zombit_parts : (last size : ℕ) (words a b : List (List ℕ)) (x : Written × List (List ℕ))
    → SayFirst (Number last ∷ []) words a → SayFirst (Number size ∷ []) a b
    → (bytes >>= λ uniform. bytes >>= λ marked. bytes >>= λ mixed. done (zombit_written last size uniform marked mixed)) b ≡ Ok x → IsRead forms.Zombit words x
zombit_parts last size words a b x p q e =
    let c = followed_ok (bytes b) (λ uniform. bytes >>= λ marked. bytes >>= λ mixed. done (zombit_written last size uniform marked mixed)) x e in
    let d = followed_ok (bytes c.0.1) (λ marked. bytes >>= λ mixed. done (zombit_written last size c.0.0 marked mixed)) x c.2 in
    let f = followed_ok (bytes d.0.1) (λ mixed. done (zombit_written last size c.0.0 d.0.0 mixed)) x d.2 in
    subst (IsRead forms.Zombit words) (read_is (zombit_written last size c.0.0 d.0.0 f.0.0, f.0.1) x f.2)
    (zombit_read last size c.0.0 d.0.0 f.0.0 words a b c.0.1 d.0.1 f.0.1 p q
    (bytes_keeps b c.0.0 c.0.1 c.1) (bytes_keeps c.0.1 d.0.0 d.0.1 d.1) (bytes_keeps d.0.1 f.0.0 f.0.1 f.1))

zombit_keeps : (words : List (List ℕ)) (x : Written × List (List ℕ)) → zombit_index words ≡ Ok x → IsRead forms.Zombit words x
unfolding zombit_index
zombit_keeps words x e =
    let a = followed_ok (number words) (λ last. number >>= λ size. bytes >>= λ uniform. bytes >>= λ marked. bytes >>= λ mixed. done (zombit_written last size uniform marked mixed)) x e in
    let b = followed_ok (number a.0.1) (λ size. bytes >>= λ uniform. bytes >>= λ marked. bytes >>= λ mixed. done (zombit_written a.0.0 size uniform marked mixed)) x a.2 in
    zombit_parts a.0.0 b.0.0 words a.0.1 b.0.1 x (number_keeps words a.0.0 a.0.1 a.1) (number_keeps a.0.1 b.0.0 b.0.1 b.1) b.2

pioneer_parts : (last count : ℕ) (words a b : List (List ℕ)) (x : Written × List (List ℕ))
    → SayFirst (Number last ∷ []) words a → SayFirst (Number count ∷ []) a b
    → (bytes >>= λ starts. bytes >>= λ sums. done (pioneer_written last count starts sums)) b ≡ Ok x → IsRead forms.Pioneer words x
pioneer_parts last count words a b x p q e =
    let c = followed_ok (bytes b) (λ starts. bytes >>= λ sums. done (pioneer_written last count starts sums)) x e in
    let d = followed_ok (bytes c.0.1) (λ sums. done (pioneer_written last count c.0.0 sums)) x c.2 in
    subst (IsRead forms.Pioneer words) (read_is (pioneer_written last count c.0.0 d.0.0, d.0.1) x d.2)
    (pioneer_read last count c.0.0 d.0.0 words a b c.0.1 d.0.1 p q (bytes_keeps b c.0.0 c.0.1 c.1) (bytes_keeps c.0.1 d.0.0 d.0.1 d.1))

pioneer_keeps : (words : List (List ℕ)) (x : Written × List (List ℕ)) → pioneer_index words ≡ Ok x → IsRead forms.Pioneer words x
unfolding pioneer_index
pioneer_keeps words x e =
    let a = followed_ok (number words) (λ last. number >>= λ count. bytes >>= λ starts. bytes >>= λ sums. done (pioneer_written last count starts sums)) x e in
    let b = followed_ok (number a.0.1) (λ count. bytes >>= λ starts. bytes >>= λ sums. done (pioneer_written a.0.0 count starts sums)) x a.2 in
    pioneer_parts a.0.0 b.0.0 words a.0.1 b.0.1 x (number_keeps words a.0.0 a.0.1 a.1) (number_keeps a.0.1 b.0.0 b.0.1 b.1) b.2

pub index_keeps : (f : Form) (words : List (List ℕ)) (x : Written × List (List ℕ)) → index_of f words ≡ Ok x → IsRead f words x
unfolding index_of
index_keeps forms.Plain = plain_keeps
index_keeps forms.List = list_keeps
index_keeps forms.Zombit = zombit_keeps
index_keeps forms.Pioneer = pioneer_keeps

-- ---- what is said is read

-- the words of an index of this form are read, and those behind it are left
abbrev Heard : Form → Written → List Piece → List (List ℕ) → List (List ℕ) → Type 0
Heard f w ps words left = (mid : List (List ℕ)) × (index_of f words ≡ Ok (w, mid)) × SayFirst ps mid left

more_pieces : (ps qs rs : List Piece) (words left : List (List ℕ)) → ps ≡ qs → SayFirst (ps ++ rs) words left → SayFirst (qs ++ rs) words left
more_pieces ps qs rs words left same h = subst (λ (ts : List Piece). SayFirst (ts ++ rs) words left) same h

plain_hears : (last : ℕ) (bits : List ℕ) (ps : List Piece) (words left : List (List ℕ))
    → SayFirst (index_pieces (plain_written last bits) ++ ps) words left → Heard forms.Plain (plain_written last bits) ps words left
unfolding index_of plain_index
plain_hears last bits ps words left h =
    let a = number_hears last (Bytes bits ∷ ps) words left (more_pieces _ _ ps words left (plain_pieces last bits) h) in
    let b = bytes_hears bits ps a.0 left a.2 in
    (b.0, rw (a.1, b.1) refl, b.2)

list_hears : (last : ℕ) (members : List ℕ) (ps : List Piece) (words left : List (List ℕ))
    → SayFirst (index_pieces (list_written last members) ++ ps) words left → Heard forms.List (list_written last members) ps words left
unfolding index_of list_index
list_hears last members ps words left h =
    let a = number_hears last (Numbers members ∷ ps) words left (more_pieces _ _ ps words left (list_pieces last members) h) in
    let b = numbers_hears members ps a.0 left a.2 in
    (b.0, rw (a.1, b.1) refl, b.2)

zombit_hears : (last size : ℕ) (uniform marked mixed : List ℕ) (ps : List Piece) (words left : List (List ℕ))
    → SayFirst (index_pieces (zombit_written last size uniform marked mixed) ++ ps) words left
    → Heard forms.Zombit (zombit_written last size uniform marked mixed) ps words left
unfolding index_of zombit_index
zombit_hears last size uniform marked mixed ps words left h =
    let a = number_hears last (Number size ∷ Bytes uniform ∷ Bytes marked ∷ Bytes mixed ∷ ps) words left
    (more_pieces _ _ ps words left (zombit_pieces last size uniform marked mixed) h) in
    let b = number_hears size (Bytes uniform ∷ Bytes marked ∷ Bytes mixed ∷ ps) a.0 left a.2 in
    let c = bytes_hears uniform (Bytes marked ∷ Bytes mixed ∷ ps) b.0 left b.2 in
    let d = bytes_hears marked (Bytes mixed ∷ ps) c.0 left c.2 in
    let f = bytes_hears mixed ps d.0 left d.2 in
    (f.0, rw (a.1, b.1, c.1, d.1, f.1) refl, f.2)

pioneer_hears : (last count : ℕ) (starts sums : List ℕ) (ps : List Piece) (words left : List (List ℕ))
    → SayFirst (index_pieces (pioneer_written last count starts sums) ++ ps) words left
    → Heard forms.Pioneer (pioneer_written last count starts sums) ps words left
unfolding index_of pioneer_index
pioneer_hears last count starts sums ps words left h =
    let a = number_hears last (Number count ∷ Bytes starts ∷ Bytes sums ∷ ps) words left
    (more_pieces _ _ ps words left (pioneer_pieces last count starts sums) h) in
    let b = number_hears count (Bytes starts ∷ Bytes sums ∷ ps) a.0 left a.2 in
    let c = bytes_hears starts (Bytes sums ∷ ps) b.0 left b.2 in
    let d = bytes_hears sums ps c.0 left c.2 in
    (d.0, rw (a.1, b.1, c.1, d.1) refl, d.2)

-- an index that fills its memories was made of its parts
zombit_made : (u o m : ℕ) (bs : List ℕ) → length bs ≡ u + (o + m)
    → (length (take u bs) ≡ u) × (length (take o (drop u bs)) ≡ o) × (length (take m (drop o (drop u bs))) ≡ m)
    × (take u bs ++ take o (drop u bs) ++ take m (drop o (drop u bs)) ≡ bs)
zombit_made u o m bs full =
    let first = length-take-le u bs (omega arith) in
    let second = length-take-le o (drop u bs) (omega (arith, length-drop u bs)) in
    let third = length-take-le m (drop o (drop u bs)) (omega (arith, length-drop u bs, length-drop o (drop u bs))) in
    let whole : take m (drop o (drop u bs)) ≡ drop o (drop u bs) = take_all m (drop o (drop u bs)) (omega (arith, length-drop u bs, length-drop o (drop u bs))) in (
      first,
      second,
      third,
      append_assoc (take u bs) (take o (drop u bs)) (take m (drop o (drop u bs)))
          ∙ ap (λ (x : List ℕ). take u bs ++ (take o (drop u bs) ++ x)) whole
          ∙ ap (λ (x : List ℕ). take u bs ++ x) (take-append-drop o (drop u bs))
          ∙ take-append-drop u bs,
    )

pioneer_made : (s t : ℕ) (bs : List ℕ) → length bs ≡ s + t
    → (length (take s bs) ≡ s) × (length (take t (drop s bs)) ≡ t) × (take s bs ++ take t (drop s bs) ≡ bs)
pioneer_made s t bs full =
    let first = length-take-le s bs (omega arith) in
    let second = length-take-le t (drop s bs) (omega (arith, length-drop s bs)) in
    let whole : take t (drop s bs) ≡ drop s bs = take_all t (drop s bs) (omega (arith, length-drop s bs)) in
    (first, second, ap (λ (x : List ℕ). take s bs ++ x) whole ∙ take-append-drop s bs)

-- the index made of the parts of another
abbrev remade : Written → Written
remade w = elim w.told [
  | told.Plain t ↦ plain_written t.last w.bytes
  | told.List t ↦ list_written t.last w.numbers
  | told.Zombit t ↦ zombit_written t.last t.size (take t.uniform w.bytes) (take t.marked (drop t.uniform w.bytes)) (take t.mixed (drop t.marked (drop t.uniform w.bytes)))
  | told.Pioneer t ↦ pioneer_written t.last t.count (take t.starts w.bytes) (take t.sums (drop t.starts w.bytes))
]

abbrev index : Told → List ℕ → List ℕ → Written
index t bs ns = record { told = t; bytes = bs; numbers = ns }

full_remade : (t : Told) (bs ns : List ℕ) → IsFull (index t bs ns) → remade (index t bs ns) ≡ index t bs ns
full_remade (told.Plain t) bs ns full =
    let none : ns ≡ [] = nil_from_length ns full.1 in
    let bits : length bs ≡ t.bits = omega (arith, full.0) in
    rw (none, bits) refl
full_remade (told.List t) bs ns full =
    let none : bs ≡ [] = nil_from_length bs full.0 in
    let members : length ns ≡ t.numbers = omega (arith, full.1) in
    rw (none, members) refl
full_remade (told.Zombit t) bs ns full =
    let none : ns ≡ [] = nil_from_length ns full.1 in
    let made = zombit_made t.uniform t.marked t.mixed bs (omega (arith, full.0)) in
    rw (none, made.0, made.1, made.2, made.3) refl
full_remade (told.Pioneer t) bs ns full =
    let none : ns ≡ [] = nil_from_length ns full.1 in
    let made = pioneer_made t.starts t.sums bs (omega (arith, full.0)) in
    rw (none, made.0, made.1, made.2) refl

pub index_hears : (w : Written) (ps : List Piece) (words left : List (List ℕ)) → IsFull w → SayFirst (index_pieces w ++ ps) words left
    → (mid : List (List ℕ)) × (index_of (form_of (choice_told w.told)) words ≡ Ok (w, mid)) × SayFirst ps mid left
index_hears w ps words left full = hears w.told w.bytes w.numbers full
  where
    hears : (t : Told) (bs ns : List ℕ) → IsFull (index t bs ns) → SayFirst (index_pieces (index t bs ns) ++ ps) words left
        → Heard (form_of (choice_told t)) (index t bs ns) ps words left
    hears (told.Plain t) bs ns full =
        subst (λ (v : Written). SayFirst (index_pieces v ++ ps) words left → Heard forms.Plain v ps words left) (full_remade (told.Plain t) bs ns full)
        (plain_hears t.last bs ps words left)
    hears (told.List t) bs ns full =
        subst (λ (v : Written). SayFirst (index_pieces v ++ ps) words left → Heard forms.List v ps words left) (full_remade (told.List t) bs ns full)
        (list_hears t.last ns ps words left)
    hears (told.Zombit t) bs ns full =
        subst (λ (v : Written). SayFirst (index_pieces v ++ ps) words left → Heard forms.Zombit v ps words left) (full_remade (told.Zombit t) bs ns full)
        (zombit_hears t.last t.size (take t.uniform bs) (take t.marked (drop t.uniform bs)) (take t.mixed (drop t.marked (drop t.uniform bs))) ps words left)
    hears (told.Pioneer t) bs ns full =
        subst (λ (v : Written). SayFirst (index_pieces v ++ ps) words left → Heard forms.Pioneer v ps words left) (full_remade (told.Pioneer t) bs ns full)
        (pioneer_hears t.last t.count (take t.starts bs) (take t.sums (drop t.starts bs)) ps words left)
