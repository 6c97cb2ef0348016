-- Reading in steps: what was read before, and what is read then.
use Rattle.std.proofs.Common.{◌≡◌, ℕ, Bool, true, false, cond, List, [], ◌∷◌, ◌++◌, Option, Some, None, Result, Ok, Err, refl, sym, ap, subst, ◌∙◌}
use Rattle.std.specs.Prelude.{bytes_eq}
use Rattle.std.specs.List.{AllByRecursion}
use Rattle.std.proofs.lemmas.Slice.Eq.{bytes_eq-Decides}
use Rattle.commands.specs.declared.expected.Expected.{Expected}
use Rattle.commands.specs.Reading.{Reader, Listing, followed, as_meant, wanted, listed}
use Rattle.commands.specs.Writing.{Piece, Says, SayFirst}

-- pieces and then further ones
pub SayFirst-append : (ps qs : List Piece) (words mid left : List (List ℕ)) → SayFirst ps words mid → SayFirst qs mid left → SayFirst (ps ++ qs) words left
SayFirst-append [] qs words mid left h k = subst (λ (w : List (List ℕ)). SayFirst qs w left) (sym h) k
SayFirst-append (p ∷ ps) qs [] mid left h k = absurd h
SayFirst-append (p ∷ ps) qs (word ∷ words) mid left h k = (h.0, SayFirst-append ps qs words mid left h.1 k)

pub SayFirst-split : (ps qs : List Piece) (words left : List (List ℕ)) → SayFirst (ps ++ qs) words left → (mid : List (List ℕ)) × SayFirst ps words mid × SayFirst qs mid left
SayFirst-split [] qs words left h = (words, refl, h)
SayFirst-split (p ∷ ps) qs [] left h = absurd h
SayFirst-split (p ∷ ps) qs (word ∷ words) left h =
    let more = SayFirst-split ps qs words left h.1 in
    (more.0, (h.0, more.1), more.2)

-- a step that was read, and those behind it
pub followed_ok : {A B : Type 0} (read : Result (A × List (List ℕ)) Expected) (next : A → Reader B) (y : B × List (List ℕ)) → followed read next ≡ Ok y
    → (x : A × List (List ℕ)) × (read ≡ Ok x) × (next x.0 x.1 ≡ Ok y)
followed_ok (Ok x) next y e = (x, refl, e)
followed_ok (Err d) next y e = absurd cc

abbrev read_as : {A : Type 0} → A → Result A Expected
read_as x = Ok x

pub read_is : {A : Type 0} (x y : A) → read_as x ≡ read_as y → x ≡ y
read_is x y e = cc

-- a word that was read
pub as_meant_ok : {A : Type 0} (d : Expected) (o : Option A) (words : List (List ℕ)) (x : A) (left : List (List ℕ)) → as_meant d o words ≡ Ok (x, left) → (o ≡ Some x) × (words ≡ left)
as_meant_ok d None words x left e = absurd cc
as_meant_ok d (Some y) words x left e =
    let p : (y, words) ≡ (x, left) = read_is (y, words) (x, left) e in
    (ap (λ (q : _ × List (List ℕ)). Some q.0) p, ap (λ (q : _ × List (List ℕ)). q.1) p)

-- its piece says it
pub wanted_ok : {A : Type 0} (d : Expected) (meaning : List ℕ → Option A) (piece : A → Piece)
    → ((word : List ℕ) (x : A) → meaning word ≡ Some x → Says (piece x) word)
    → (words : List (List ℕ)) (x : A) (left : List (List ℕ)) → wanted d meaning words ≡ Ok (x, left) → SayFirst (piece x ∷ []) words left
wanted_ok d meaning piece means [] x left e = absurd cc
wanted_ok d meaning piece means (word ∷ words) x left e =
    let w = as_meant_ok d (meaning word) words x left e in
    (means word x w.0, w.1)

-- a word that is to be read: its piece is said
pub wanted_said : {A : Type 0} (d : Expected) (meaning : List ℕ → Option A) (piece : A → Piece)
    → ((word : List ℕ) (x : A) → Says (piece x) word → meaning word ≡ Some x)
    → (x : A) (ps : List Piece) (words left : List (List ℕ)) → SayFirst (piece x ∷ ps) words left
    → (mid : List (List ℕ)) × (wanted d meaning words ≡ Ok (x, mid)) × SayFirst ps mid left
wanted_said d meaning piece means x ps [] left h = absurd h
wanted_said d meaning piece means x ps (word ∷ words) left h =
    (words, ap (λ (o : Option _). as_meant d o words) (means word x h.0), h.1)

-- a word that is listed, by the texts of what is listed
listed_here : {A : Type 0} (text : A → List ℕ) (entry : List ℕ × A) (rest : Option A) (word : List ℕ) (x : A)
    → entry.0 ≡ text entry.1 → (rest ≡ Some x → word ≡ text x)
    → (b : Bool) → bytes_eq word entry.0 ≡ b → cond b (Some entry.1) rest ≡ Some x → word ≡ text x
listed_here text entry rest word x here later true same e =
    let is : entry.1 ≡ x = cc in
    (bytes_eq-Decides word entry.0).0 same ∙ here ∙ ap text is
listed_here text entry rest word x here later false other e = later e

pub listed_ok : {A : Type 0} (text : A → List ℕ) (entries : Listing A) → AllByRecursion (λ (entry : List ℕ × A). entry.0 ≡ text entry.1) entries
    → (word : List ℕ) (x : A) → listed entries word ≡ Some x → word ≡ text x
listed_ok text [] all word x e = absurd cc
listed_ok text (entry ∷ entries) all word x e =
    listed_here text entry (listed entries word) word x all.0 (listed_ok text entries all.1 word x) (bytes_eq word entry.0) refl e
