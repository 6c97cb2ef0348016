-- What is left to show of `check_mixes`.
use Rattle.std.proofs.Common.{ℕ, ◌-◌, ◌*◌, not, ◌&&◌, is_some, sym, ap, ◌∙◌, arith}
use Rattle.std.proofs.lemmas.Bool.{not-true, not-false}
use Rattle.sets.specs.Search.{first_from}
use Rattle.bits.specs.Bits.{bit_at}
use Rattle.zombit.specs.Looking.{both_in, places_of}
use Rattle.zombit.specs.Blocks.{blocks_of, bits_before}
use Rattle.zombit.specs.Opening.{some_in}
use Rattle.zombit.proofs.Passes.{mix_unfit, mix_past, mixes_fit, mixed_by}
use Rattle.zombit.proofs.checks.check_mixes.Goals as goal

pub returns-then-not-are_mixed : goal.returns-then-not-are_mixed
returns-then-not-are_mixed c =
    let b = c.args.blocks in
    let U = bit_at c.args.uniform.now in
    let M = bit_at c.args.mixed.now in
    let some = b.blocked.0 in
    let number = mixed_by b.last b.size U (omega (arith, some)) b.sized.0 M _ _ c.mixed_bits-bits.ensures.value c.count.ensures in
    let e = c.if-not-are_mixed.ensures in
    mix_unfit b.last b.size U (omega (arith, some)) b.sized.0 M
    (ap (λ (m : ℕ). is_some (first_from (λ k. not (both_in M (k * b.size) b.size)) 0 m)) (sym number) ∙ not-false _ (sym e))

pub returns-then-has_member_past : goal.returns-then-has_member_past
returns-then-has_member_past c =
    let b = c.args.blocks in
    let U = bit_at c.args.uniform.now in
    let M = bit_at c.args.mixed.now in
    let bits = c.mixed_bits-bits.ensures.value ∙ ap (bits_before b.size U) c.count.ensures in
    mix_past b.last b.size U (omega (arith, b.blocked.0)) b.sized.0 M
    (ap (λ (x : ℕ). not (U (blocks_of b.last b.size)) && some_in M (x - (places_of b.last b.size - b.last)) (places_of b.last b.size - b.last)) (sym bits)
    ∙ sym c.if-has_member_past.ensures)

pub returns : goal.returns
returns c =
    let b = c.args.blocks in
    let U = bit_at c.args.uniform.now in
    let M = bit_at c.args.mixed.now in
    let some = b.blocked.0 in
    let number = mixed_by b.last b.size U (omega (arith, some)) b.sized.0 M _ _ c.mixed_bits-bits.ensures.value c.count.ensures in
    let e = c.if-not-are_mixed.ensures in
    let bits = c.mixed_bits-bits.ensures.value ∙ ap (bits_before b.size U) c.count.ensures in
    mixes_fit b.last b.size U (omega (arith, some)) b.sized.0 M
    (ap (λ (m : ℕ). is_some (first_from (λ k. not (both_in M (k * b.size) b.size)) 0 m)) (sym number) ∙ not-true _ (sym e))
    (ap (λ (x : ℕ). not (U (blocks_of b.last b.size)) && some_in M (x - (places_of b.last b.size - b.last)) (places_of b.last b.size - b.last)) (sym bits)
    ∙ sym c.if-has_member_past.ensures)
