-- What the numbers that C passes name. A number that names nothing is refused, and is read here as the last of its kind.
use Rattle.std.specs.Prelude.{ℕ, Bool, cond, List, nat_eq}
use Rattle.faults.specs.Checks.{Verdict}
use Rattle.sets.specs.declared.Sort.{Sort}
use Rattle.sets.specs.declared.Sort.TheVariants.{Members, Others}
use Rattle.forms.specs.declared.choice.Choice.{Choice}
use Rattle.forms.specs.declared.choice.Choice.TheVariants as choices
use Rattle.forms.specs.declared.told.Told.{Told}
use Rattle.forms.specs.declared.told.Told.TheVariants as tolds
use Rattle.forms.specs.Opening.{opening_told, decoding_told}
use Rattle.batches.specs.declared.question.Question.{Question}
use Rattle.batches.specs.declared.question.Question.TheVariants.{Holds, Next, Previous, Rank, Select}
use Rattle.bays.specs.declared.structs.BaysTold.{BaysTold}

-- one for each form: 0 plain, 1 list, 2 zombit, 3 pioneer
abbrev pub by_form : {A : Type 0} → ℕ → A → A → A → A → A
by_form form plain listed zombit pioneer = cond (nat_eq form 0) plain (cond (nat_eq form 1) listed (cond (nat_eq form 2) zombit pioneer))

-- the number of a told is a zombit index's block size and a pioneer index's number of members; its lengths are those of the parts
abbrev pub told_named : BaysTold → Told
told_named t =
    by_form t.form
    (tolds.Plain (record { last = t.last; bits = t.first }))
    (tolds.List (record { last = t.last; numbers = t.first }))
    (tolds.Zombit (record { last = t.last; size = t.number; uniform = t.first; marked = t.second; mixed = t.third }))
    (tolds.Pioneer (record { last = t.last; count = t.number; starts = t.first; sums = t.second }))

abbrev pub choice_named : ℕ → ℕ → Choice
choice_named form size = by_form form choices.Plain choices.List (choices.Zombit size) choices.Pioneer

abbrev pub question_named : ℕ → Question
question_named q = cond (nat_eq q 0) Holds (cond (nat_eq q 1) Next (cond (nat_eq q 2) Previous (cond (nat_eq q 3) Rank Select)))

abbrev pub sort_named : ℕ → Sort
sort_named k = cond (nat_eq k 0) Members Others

-- what opening answers, and the set
abbrev pub opening_named : BaysTold → List ℕ → List ℕ → Verdict
opening_named t bytes numbers = opening_told (told_named t) bytes numbers

abbrev pub set_named : BaysTold → List ℕ → List ℕ → List Bool
set_named t bytes numbers = decoding_told (told_named t) bytes numbers
