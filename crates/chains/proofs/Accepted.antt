-- What is known of two chains where judging accepted them.
use Rattle.std.proofs.Common.{◌≡◌, ℕ, suc, ◌-◌, ◌≤◌, Bool, List, [], ◌∷◌, length, Ok, Err, refl, sym, ◌∙◌, arith, length-append}
use Rattle.opening.specs.declared.fault.Side.{Side}
use Rattle.opening.specs.declared.fault.Side.TheVariants.{F, C}
use Rattle.chains.specs.declared.plan.Plan.{Plan}
use Rattle.forms.specs.declared.choice.Choice.{Choice}
use Rattle.chains.specs.Judging.{ChainVerdict, numbered, stages, first_fault, sizing, rooming, judging}
use Rattle.chains.specs.Laid.{laid_bytes, laid_numbers}
use Rattle.sets.specs.Lists.{Each}
use Rattle.chains.proofs.Sizes.{size_fits}
use Rattle.forms.specs.Choices.{layout_of, SizeFits}
use Rattle.forms.specs.Laying.{rooms_told, bytes_of, numbers_of}
use Rattle.forms.specs.Telling.{told_of, bytes_told, numbers_told}
use Rattle.chains.proofs.Judged.{both_accepted}
use Rattle.forms.proofs.Laid.{told_bytes, told_numbers}
use Rattle.chains.proofs.Within.{told_within}
use Rattle.chains.proofs.Sides.{in_turn}

both : (u v : ChainVerdict) → first_fault u v ≡ Ok tt → (u ≡ Ok tt) × (v ≡ Ok tt)
both (Ok _) v h = (refl, h)
both (Err e) v h = cc

sizes : (side : Side) (s : List Bool) (k : ℕ) (choices : List Choice) → sizing (numbered side s k choices) ≡ Ok tt → Each SizeFits choices
sizes side s k [] h = tt
sizes side s k (x ∷ choices) h =
    let ok = both_accepted (record { side = side; step = k; choice = x; set = s }) (layout_of x).measuring (sizing (numbered side s (suc k) choices)) h in
    (size_fits x ok.0, sizes side s (suc k) choices ok.1)

fits : (side : Side) (s : List Bool) (k : ℕ) (choices : List Choice) (m n : ℕ) → rooming (numbered side s k choices) m n ≡ Ok tt
    → (length (laid_bytes choices s) ≤ m) × (length (laid_numbers choices s) ≤ n)
fits side s k [] m n h = (omega arith, omega arith)
fits side s k (x ∷ choices) m n h =
    let told = told_of x s in
    let ok =
    both_accepted (record { side = side; step = k; choice = x; set = s }) (rooms_told told m n) (rooming (numbered side s (suc k) choices) (m - bytes_told told) (n - numbers_told told)) h in
    let first = told_within told m n ok.0 in
    let rest = fits side s (suc k) choices (m - bytes_told told) (n - numbers_told told) ok.1 in (
      omega (arith, length-append (bytes_of x s) (laid_bytes choices s), told_bytes x s, first.0, rest.0),
      omega (arith, length-append (numbers_of x s) (laid_numbers choices s), told_numbers x s, first.1, rest.1),
    )

-- the forms have such block sizes, and there is room for F's steps, and for C's behind them
pub record Accepted (f c : List Bool) (plan : Plan) (m n : ℕ) : Type 0 where
  pub free : Each SizeFits plan.free.now
  pub class : Each SizeFits plan.class.now
  pub free_bytes : length (laid_bytes plan.free.now f) ≤ m
  pub free_numbers : length (laid_numbers plan.free.now f) ≤ n
  pub class_bytes : length (laid_bytes plan.class.now c) ≤ m - length (laid_bytes plan.free.now f)
  pub class_numbers : length (laid_numbers plan.class.now c) ≤ n - length (laid_numbers plan.free.now f)

pub accepted : (f c : List Bool) (plan : Plan) (m n : ℕ) → Ok tt ≡ judging (stages f c plan) m n → Accepted f c plan m n
accepted f c plan m n h =
    let sizes_f = sizing (numbered F f 1 plan.free.now) in
    let sizes_c = sizing (numbered C c 1 plan.class.now) in
    let rooms_f = rooming (numbered F f 1 plan.free.now) m n in
    let rooms_c = rooming (numbered C c 1 plan.class.now) (m - length (laid_bytes plan.free.now f)) (n - length (laid_numbers plan.free.now f)) in
    let all = both sizes_f (first_fault sizes_c (first_fault rooms_f rooms_c)) (in_turn f c plan m n sizes_f sizes_c rooms_f rooms_c refl refl refl refl ∙ sym h) in
    let behind = both sizes_c (first_fault rooms_f rooms_c) all.1 in
    let rooms = both rooms_f rooms_c behind.1 in
    let room_f = fits F f 1 plan.free.now m n rooms.0 in
    let room_c = fits C c 1 plan.class.now (m - length (laid_bytes plan.free.now f)) (n - length (laid_numbers plan.free.now f)) rooms.1 in
    record {
      free = sizes F f 1 plan.free.now all.0;
      class = sizes C c 1 plan.class.now behind.0;
      free_bytes = room_f.0;
      free_numbers = room_f.1;
      class_bytes = room_c.0;
      class_numbers = room_c.1;
    }
