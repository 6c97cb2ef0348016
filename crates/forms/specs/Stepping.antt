-- A fill as a step of a chain, with the memories that it was handed and left.
use Rattle.std.specs.Prelude.{◌≡◌, ℕ, Bool, List}
use Rattle.filling.specs.Chains.{Step}
use Rattle.forms.specs.declared.choice.Choice.{Choice}
use Rattle.forms.specs.Choices.{layout_of}
use Rattle.forms.specs.Laying.{pieces}

-- from the set s to the set t, by way of these memories: of bytes and of 16-bit numbers, as they were and as they are
abbrev pub Stepped : Choice → List Bool → List Bool → List ℕ → List ℕ → List ℕ → List ℕ → Type 0
Stepped x s t bytes numbers new_bytes new_numbers =
    (step : Step (layout_of x) s t) × ((step.before ≡ pieces x s bytes numbers) × (step.after ≡ pieces x s new_bytes new_numbers))
