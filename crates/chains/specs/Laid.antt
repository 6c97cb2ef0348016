-- What a chain of forms leaves in two memories: the parts of each step, one step behind the other.
use Rattle.std.specs.Prelude.{◌≡◌, ℕ, ◌+◌, ◌≤◌, Bool, List, [], ◌∷◌, ◌++◌, length, take, drop, Ok, Err, Some, None, Option}
use Rattle.std.specs.List.{flat_map}
use Rattle.sets.specs.Lists.{over}
use Rattle.forms.specs.Choices.{SizeFits}
use Rattle.forms.specs.Laying.{bytes_of, numbers_of}
use Rattle.forms.specs.Telling.{told_of, bytes_told, numbers_told}
use Rattle.forms.specs.declared.choice.Choice.{Choice}
use Rattle.chains.specs.Judging.{ChainVerdict}
use Rattle.chains.specs.declared.extent.Extent.{Extent}
use Rattle.chains.specs.declared.place.Last.{Last}

-- every step holds the same set
abbrev pub laid_bytes : List Choice → List Bool → List ℕ
laid_bytes choices s = flat_map (λ x. bytes_of x s) choices

abbrev pub laid_numbers : List Choice → List Bool → List ℕ
laid_numbers choices s = flat_map (λ x. numbers_of x s) choices

-- what is written behind so many numbers of a memory; what lies before it and behind it is kept
abbrev pub over_at : ℕ → List ℕ → List ℕ → List ℕ
over_at at part memory = take at memory ++ over part (drop at memory)

-- a memory after judging: what is laid stands at its front, and after a refusal it is as it was
abbrev pub left_by : ChainVerdict → List ℕ → List ℕ → List ℕ
left_by (Ok _) laid memory = over laid memory
left_by (Err _) laid memory = memory

-- what was told of the last step, and where its index lies, where the first lies at `start`: none where there is no step
abbrev pub LastIs : Extent → List Choice → List Bool → Option Last → Type 0
LastIs start choices s None = choices ≡ []
LastIs start choices s (Some l) =
    (before : List Choice) × (x : Choice)
    × (choices ≡ before ++ (x ∷ []))
    × (l.told ≡ told_of x s)
    × (l.bytes_at ≡ start.bytes + length (laid_bytes before s))
    × (l.numbers_at ≡ start.numbers + length (laid_numbers before s))

-- the place behind it
abbrev pub place_behind : Option Last → Extent → Extent
place_behind None start = start
place_behind (Some l) start = record { bytes = l.bytes_at + bytes_told l.told; numbers = l.numbers_at + numbers_told l.told }

-- a memory has this part at a place
abbrev pub Has : List ℕ → ℕ → List ℕ → Type 0
Has memory at part = (at + length part ≤ length memory) × (take (length part) (drop at memory) ≡ part)

-- the index of the set in some form lies in two memories
abbrev pub IndexIn : Last → List Bool → List ℕ → List ℕ → Type 0
IndexIn l s bytes numbers =
    (x : Choice) × SizeFits x × (l.told ≡ told_of x s) × Has bytes l.bytes_at (bytes_of x s) × Has numbers l.numbers_at (numbers_of x s)

-- the last index does, where there is one
abbrev pub LiesIn : Option Last → List Bool → List ℕ → List ℕ → Type 0
LiesIn None s bytes numbers = Unit {0}
LiesIn (Some l) s bytes numbers = IndexIn l s bytes numbers
