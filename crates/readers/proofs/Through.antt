-- Two sets that judging accepted go through the forms of the plan, where what is laid stands in the memories.
use Rattle.std.proofs.Common.{◌≡◌, ℕ, Bool, List, ◌++◌, length, drop, ap, ◌∙◌, arith, append_assoc, length-drop}
use Rattle.std.proofs.Math.Seq.{drop-append_seam}
use Rattle.sets.specs.Lists.{over}
use Rattle.sets.specs.Sets.{Sized}
use Rattle.chains.specs.Laid.{laid_bytes, laid_numbers}
use Rattle.chains.specs.declared.plan.Plan.{Plan}
use Rattle.chains.proofs.Accepted.{Accepted}
use Rattle.chains.proofs.Steps.{steps_in, chain_of}
use Rattle.readers.specs.Refilled.{Refilled}

pub through : (plan : Plan) (f c : List Bool) (bytes numbers new_bytes new_numbers : List ℕ) → Sized f → Sized c → Accepted f c plan (length bytes) (length numbers)
    → new_bytes ≡ over (laid_bytes plan.free.now f ++ laid_bytes plan.class.now c) bytes
    → new_numbers ≡ over (laid_numbers plan.free.now f ++ laid_numbers plan.class.now c) numbers
    → Refilled plan f c f c bytes numbers new_bytes new_numbers
through plan f c bytes numbers new_bytes new_numbers sized_f sized_c ok wrote wrote_numbers =
    let bytes_f = laid_bytes plan.free.now f in
    let bytes_c = laid_bytes plan.class.now c in
    let numbers_f = laid_numbers plan.free.now f in
    let numbers_c = laid_numbers plan.class.now c in
    let kept = drop (length (bytes_f ++ bytes_c)) bytes in
    let kept_numbers = drop (length (numbers_f ++ numbers_c)) numbers in
    let front = wrote ∙ append_assoc bytes_f bytes_c kept in
    let numbers_front = wrote_numbers ∙ append_assoc numbers_f numbers_c kept_numbers in
    let m = length bytes_f in
    let n = length numbers_f in
    let free = steps_in plan.free.now f bytes numbers new_bytes new_numbers (bytes_c ++ kept) (numbers_c ++ kept_numbers) ok.free sized_f ok.free_bytes ok.free_numbers front numbers_front in
    let class =
    steps_in plan.class.now c (drop m bytes) (drop n numbers) (drop m new_bytes) (drop n new_numbers) kept kept_numbers ok.class sized_c
    (omega (arith, length-drop m bytes, ok.class_bytes)) (omega (arith, length-drop n numbers, ok.class_numbers))
    (ap (drop m) front ∙ drop-append_seam bytes_f (bytes_c ++ kept)) (ap (drop n) numbers_front ∙ drop-append_seam numbers_f (numbers_c ++ kept_numbers)) in
    record {
      free = chain_of plan.free.now f f bytes numbers new_bytes new_numbers free;
      class = chain_of plan.class.now c c (drop m bytes) (drop n numbers) (drop m new_bytes) (drop n new_numbers) class;
      free_in = free;
      class_in = class;
    }
