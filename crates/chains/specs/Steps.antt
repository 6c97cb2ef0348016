-- A chain in two memories, as they were and as they are: each step lies behind the one before it.
use Rattle.std.specs.Prelude.{◌≡◌, ℕ, Bool, List, [], ◌∷◌, length, drop}
use Rattle.forms.specs.Laying.{bytes_of, numbers_of}
use Rattle.forms.specs.Stepping.{Stepped}
use Rattle.forms.specs.declared.choice.Choice.{Choice}

-- t is what is opened at the end, where s goes through these forms, each time from what is opened where the step before was filled
abbrev pub StepsIn : List Choice → List Bool → List Bool → List ℕ → List ℕ → List ℕ → List ℕ → Type 0
StepsIn [] s t bytes numbers new_bytes new_numbers = t ≡ s
StepsIn (x ∷ choices) s t bytes numbers new_bytes new_numbers =
    let m = length (bytes_of x s) in
    let n = length (numbers_of x s) in
    (u : List Bool) × Stepped x s u bytes numbers new_bytes new_numbers × StepsIn choices u t (drop m bytes) (drop n numbers) (drop m new_bytes) (drop n new_numbers)
