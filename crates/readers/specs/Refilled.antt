-- Two sets that went through the forms of a plan.
use Rattle.std.specs.Prelude.{ℕ, Bool, List, map, length, drop}
use Rattle.filling.specs.Chains.{Chain}
use Rattle.forms.specs.Choices.{layout_of}
use Rattle.chains.specs.Laid.{laid_bytes, laid_numbers}
use Rattle.chains.specs.Steps.{StepsIn}
use Rattle.chains.specs.declared.plan.Plan.{Plan}

-- f' and c' are what is opened at the ends, where f and c were filled and opened again in the forms of the plan
pub record Refilled (plan : Plan) (f c f' c' : List Bool) (bytes numbers new_bytes new_numbers : List ℕ) : Type 0 where
  pub free : Chain (map layout_of plan.free.now) f f'
  pub class : Chain (map layout_of plan.class.now) c c'
  -- and these memories, as they were and as they are, are those of the fills: f's from the fronts on, and c's behind them
  pub free_in : StepsIn plan.free.now f f' bytes numbers new_bytes new_numbers
  pub class_in :
      let m = length (laid_bytes plan.free.now f) in
      let n = length (laid_numbers plan.free.now f) in
      StepsIn plan.class.now c c' (drop m bytes) (drop n numbers) (drop m new_bytes) (drop n new_numbers)
