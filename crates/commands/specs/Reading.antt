-- Reading words from left to right.
use Rattle.std.specs.Prelude.{◌≡◌, ℕ, List, [], ◌∷◌, Option, None, Some, Result, Ok, Err, bytes_eq, if◌then◌else◌}
use Rattle.commands.specs.declared.expected.Expected.{Expected}
use Rattle.commands.specs.declared.expected.Expected.TheVariants as expected
use Rattle.commands.specs.declared.expected.Unread.{Unread}
use Rattle.commands.specs.declared.expected.Unread.TheVariants as unread

-- reads something from the front of some words: what it is, and the words behind it; or what is wanted at the first place where another
-- word stands, or none
abbrev pub Reader : Type 0 → Type 0
Reader A = List (List ℕ) → Result (A × List (List ℕ)) Expected

-- one thing, and then what follows it
abbrev pub followed : {A B : Type 0} → Result (A × List (List ℕ)) Expected → (A → Reader B) → Result (B × List (List ℕ)) Expected
followed (Ok x) next = next x.0 x.1
followed (Err e) next = Err e

infixl 10 ◌>>=◌
abbrev pub ◌>>=◌ : {A B : Type 0} → Reader A → (A → Reader B) → Reader B
◌>>=◌ read next words = followed (read words) next

-- this, for which no further word is read
abbrev pub done : {A : Type 0} → A → Reader A
done x words = Ok (x, words)

-- the next word, which must mean something
abbrev pub as_meant : {A : Type 0} → Expected → Option A → Reader A
as_meant e None words = Err e
as_meant e (Some x) words = Ok (x, words)

abbrev pub wanted : {A : Type 0} → Expected → (List ℕ → Option A) → Reader A
wanted e meaning [] = Err e
wanted e meaning (word ∷ words) = as_meant e (meaning word) words

-- a list of words, each with what it means
abbrev pub Listing : Type 0 → Type 0
Listing A = List (List ℕ × A)

abbrev pub listed : {A : Type 0} → Listing A → List ℕ → Option A
listed [] word = None
listed (entry ∷ entries) word = if bytes_eq word entry.0 then Some entry.1 else listed entries word

-- all of the words
abbrev pub ended : {A : Type 0} → Result (A × List (List ℕ)) Expected → Result A Expected
ended (Err e) = Err e
ended (Ok (x, [])) = Ok x
ended (Ok (x, word ∷ words)) = Err expected.End

-- what was read, and the words that were left, are what a reader reads
abbrev pub Gives : {A : Type 0} → Result A Expected → List (List ℕ) → Result (A × List (List ℕ)) Expected → Type 0
Gives (Ok x) left read = read ≡ Ok (x, left)
Gives (Err e) left read = read ≡ Err e

-- the same of what takes memory, with what was read seen by `view`: unless there was none
abbrev pub Fails : {A : Type 0} → Unread → Result A Expected → Type 0
Fails (unread.Expected e) read = read ≡ Err e
Fails (unread.Memory _) read = Unit {0}

abbrev pub GivesSeen : {A B : Type 0} → (A → B) → Result A Unread → List (List ℕ) → Result (B × List (List ℕ)) Expected → Type 0
GivesSeen view (Ok x) left read = read ≡ Ok (view x, left)
GivesSeen view (Err e) left read = Fails e read

-- and of what reads all of the words
abbrev pub GivesWhole : {A B : Type 0} → (A → B) → Result A Unread → Result B Expected → Type 0
GivesWhole view (Ok x) read = read ≡ Ok (view x)
GivesWhole view (Err e) read = Fails e read
