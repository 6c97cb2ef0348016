-- What judging two chains answers before anything is written.
use Rattle.std.specs.Prelude.{◌≡◌, ℕ, suc, ◌+◌, ◌-◌, ◌≤◌, Bool, List, [], ◌∷◌, ◌++◌, length, ◌⊎◌, Ok, Err, Result}
use Rattle.faults.specs.Checks.{Verdict}
use Rattle.faults.specs.Numbers.{FaultBy}
use Rattle.opening.specs.declared.fault.Side.{Side}
use Rattle.opening.specs.declared.fault.Side.TheVariants.{F, C}
use Rattle.chains.specs.declared.fault.ChainFault.{ChainFault}
use Rattle.chains.specs.declared.plan.Plan.{Plan}
use Rattle.forms.specs.declared.choice.Choice.{Choice}
use Rattle.filling.specs.Layouts.{lengths}
use Rattle.forms.specs.Choices.{layout_of, by_width, SizeFits}
use Rattle.forms.specs.Laying.{rooms_told, bytes_of, numbers_of}
use Rattle.forms.specs.Telling.{told_of, bytes_told, numbers_told}

-- a step of one of the two chains: its side, its number, its form, and the set that it holds
pub record Stage : Type 0 where
  pub side : Side
  pub step : ℕ
  pub choice : Choice
  pub set : List Bool

-- the steps of one side, from step k on
abbrev pub numbered : Side → List Bool → ℕ → List Choice → List Stage
numbered side s k [] = []
numbered side s k (x ∷ choices) = record { side = side; step = k; choice = x; set = s } ∷ numbered side s (suc k) choices

-- all steps: F's, and then C's
abbrev pub stages : List Bool → List Bool → Plan → List Stage
stages f c plan = numbered F f 1 plan.free.now ++ numbered C c 1 plan.class.now

abbrev pub ChainVerdict : Type 0
ChainVerdict = Result (Unit {0}) ChainFault

-- whether all is well, or the fault
abbrev pub unit_of : {A : Type 0} → Result A ChainFault → ChainVerdict
unit_of (Ok _) = Ok tt
unit_of (Err e) = Err e

-- the verdict on a step
abbrev pub placed : Stage → Verdict → ChainVerdict
placed t (Ok _) = Ok tt
placed t (Err e) = Err (record { side = t.side; step = t.step; fault = e })

-- the first of two verdicts that refuses
abbrev pub first_fault : ChainVerdict → ChainVerdict → ChainVerdict
first_fault (Ok _) next = next
first_fault (Err e) next = Err e

-- the first step that has no such block size
abbrev pub sizing : List Stage → ChainVerdict
sizing [] = Ok tt
sizing (t ∷ ts) = first_fault (placed t (layout_of t.choice).measuring) (sizing ts)

-- the first part that has no room in m bytes and n numbers, where the steps lie one behind the other
abbrev pub rooming : List Stage → ℕ → ℕ → ChainVerdict
rooming [] m n = Ok tt
rooming (t ∷ ts) m n =
    let told = told_of t.choice t.set in
    first_fault (placed t (rooms_told told m n)) (rooming ts (m - bytes_told told) (n - numbers_told told))

abbrev pub judging : List Stage → ℕ → ℕ → ChainVerdict
judging ts m n = first_fault (sizing ts) (rooming ts m n)

-- what is asked of a step, and then the rest: this must hold, else the answer is a fault of this step by this number in this part
abbrev pub NeedsAt : Stage → ℕ → ℕ → Type 0 → (ChainVerdict → Type 0) → ChainVerdict → Type 0
NeedsAt t n part P rest (Ok _) = P × rest (Ok tt)
NeedsAt t n part P rest (Err e) =
    ((e.side ≡ t.side) × (e.step ≡ t.step) × FaultBy n (layout_of t.choice).form part e.fault (P → ⊥)) ⊎ (P × rest (Err e))

-- nothing more is asked
abbrev pub Accepted : ChainVerdict → Type 0
Accepted (Ok _) = Unit {0}
Accepted (Err e) = ⊥

-- each step has such blocks
abbrev pub SizesFit : List Stage → (ChainVerdict → Type 0) → ChainVerdict → Type 0
SizesFit [] rest = rest
SizesFit (t ∷ ts) rest = NeedsAt t 4 0 (SizeFits t.choice) (SizesFit ts rest)

-- each part of a step, from part k on, ends within the m numbers of its memory, of which those before it took so many
abbrev pub PartsFit : Stage → ℕ → List ℕ → ℕ → ℕ → (ChainVerdict → Type 0) → ChainVerdict → Type 0
PartsFit t k [] took m rest = rest
PartsFit t k (n ∷ lengths) took m rest = NeedsAt t 5 k (took + n ≤ m) (PartsFit t (suc k) lengths (took + n) m rest)

-- the parts of each step do, in m bytes and n numbers, of which the steps before took a and b
abbrev pub RoomsFit : List Stage → ℕ → ℕ → ℕ → ℕ → ChainVerdict → Type 0
RoomsFit [] m n a b = Accepted
RoomsFit (t ∷ ts) m n a b =
    PartsFit t 1 (lengths (layout_of t.choice) t.set) (by_width t.choice a b) (by_width t.choice m n)
    (RoomsFit ts m n (a + length (bytes_of t.choice t.set)) (b + length (numbers_of t.choice t.set)))

-- accepted exactly if every block size is in range, and every part has room in m bytes and n numbers; else the first that is not counts
abbrev pub JudgingIs : List Stage → ℕ → ℕ → ChainVerdict → Type 0
JudgingIs ts m n = SizesFit ts (RoomsFit ts m n 0 0)
