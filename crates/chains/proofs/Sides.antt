-- The steps of the two sides, judged one side after the other.
use Rattle.std.proofs.Common.{◌≡◌, ℕ, suc, ◌-◌, Bool, List, [], ◌∷◌, ◌++◌, length, refl, sym, ap, ◌∙◌, arith, length-append}
use Rattle.opening.specs.declared.fault.Side.{Side}
use Rattle.opening.specs.declared.fault.Side.TheVariants.{F, C}
use Rattle.chains.specs.declared.plan.Plan.{Plan}
use Rattle.forms.specs.declared.choice.Choice.{Choice}
use Rattle.chains.specs.Judging.{Stage, ChainVerdict, numbered, stages, placed, first_fault, sizing, rooming, judging}
use Rattle.chains.specs.Laid.{laid_bytes, laid_numbers}
use Rattle.forms.specs.Choices.{layout_of}
use Rattle.forms.specs.Laying.{rooms_told, bytes_of, numbers_of}
use Rattle.forms.specs.Telling.{told_of, bytes_told, numbers_told}
use Rattle.chains.proofs.Laws.{joined_chains}
use Rattle.forms.proofs.Laid.{told_bytes, told_numbers}

sizing_join : (ts us : List Stage) → sizing (ts ++ us) ≡ first_fault (sizing ts) (sizing us)
sizing_join [] us = refl
sizing_join (t ∷ ts) us =
    let first = placed t (layout_of t.choice).measuring in
    ap (first_fault first) (sizing_join ts us) ∙ joined_chains first (sizing ts) (sizing us)

rooming_join : (side : Side) (s : List Bool) (k : ℕ) (choices : List Choice) (us : List Stage) (m n : ℕ)
    → rooming (numbered side s k choices ++ us) m n
    ≡ first_fault (rooming (numbered side s k choices) m n) (rooming us (m - length (laid_bytes choices s)) (n - length (laid_numbers choices s)))
rooming_join side s k [] us m n =
    let bytes : m ≡ m - 0 = omega arith in
    let numbers : n ≡ n - 0 = omega arith in
    λ i. rooming us (bytes i) (numbers i)
rooming_join side s k (x ∷ choices) us m n =
    let told = told_of x s in
    let first = placed (record { side = side; step = k; choice = x; set = s }) (rooms_told told m n) in
    let bytes : (m - bytes_told told) - length (laid_bytes choices s) ≡ m - length (laid_bytes (x ∷ choices) s) =
    omega (arith, told_bytes x s, length-append (bytes_of x s) (laid_bytes choices s)) in
    let numbers : (n - numbers_told told) - length (laid_numbers choices s) ≡ n - length (laid_numbers (x ∷ choices) s) =
    omega (arith, told_numbers x s, length-append (numbers_of x s) (laid_numbers choices s)) in
    ap (first_fault first) (rooming_join side s (suc k) choices us (m - bytes_told told) (n - numbers_told told) ∙ ap (first_fault (rooming (numbered side s (suc k) choices) (m - bytes_told told) (n - numbers_told told))) (λ i. rooming us (bytes i) (numbers i)))
    ∙ joined_chains first _ _

module _ (f c : List Bool) (plan : Plan) (m n : ℕ) where
  abbrev sizes_f : ChainVerdict
  sizes_f = sizing (numbered F f 1 plan.free.now)

  abbrev sizes_c : ChainVerdict
  sizes_c = sizing (numbered C c 1 plan.class.now)

  abbrev rooms_f : ChainVerdict
  rooms_f = rooming (numbered F f 1 plan.free.now) m n

  -- C's steps lie behind F's
  abbrev rooms_c : ChainVerdict
  rooms_c = rooming (numbered C c 1 plan.class.now) (m - length (laid_bytes plan.free.now f)) (n - length (laid_numbers plan.free.now f))

  -- F's block sizes, C's, F's room and C's
  pub in_turn : (u v w x : ChainVerdict) → u ≡ sizes_f → v ≡ sizes_c → w ≡ rooms_f → x ≡ rooms_c
      → first_fault u (first_fault v (first_fault w x)) ≡ judging (stages f c plan) m n
  in_turn u v w x eu ev ew ex =
      (λ i. first_fault (eu i) (first_fault (ev i) (first_fault (ew i) (ex i))))
      ∙ joined_chains sizes_f sizes_c (first_fault rooms_f rooms_c)
      ∙ sym (λ i. first_fault (sizing_join (numbered F f 1 plan.free.now) (numbered C c 1 plan.class.now) i) (rooming_join F f 1 plan.free.now (numbered C c 1 plan.class.now) m n i))
