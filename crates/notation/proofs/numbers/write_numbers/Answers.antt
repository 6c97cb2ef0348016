-- What is written of none, and number by number.
use Rattle.std.proofs.Common.{rules, arith, ◌<◌, ◌≡◌, ◌+◌, ◌∙◌, ◌∷◌, ◌++◌, add-one, ap, refl, sym, length, take, get_or}
use Rattle.std.specs.Prelude.{decimal}
use Rattle.std.specs.String.{string_bytes}
use Rattle.std.proofs.lemmas.List.{append_assoc}
use Rattle.notation.specs.Numbers.{numbers_text}
use Rattle.notation.proofs.NumberLists.{numbers_text-more, numbers_text-none, numbers_text-one}
use Rattle.notation.proofs.numbers.write_numbers.Goals as goal

pub returns-in_default : goal.returns-in_default
returns-in_default c = rw (numbers_text-none c.args.numbers.now c.in_default.ensures.cases) (search rules)

pub loop-number-init : goal.loop-number-init
loop-number-init c =
    let parts = c.in-Some.ensures.cases in
    let some : 0 < length c.args.numbers.now = omega (arith, parts.1) in
    let one : numbers_text (take 1 c.args.numbers.now) ≡ decimal c.in-Some.first.now =
    numbers_text-one c.args.numbers.now some ∙ ap (λ ns. decimal (get_or ns 0 0)) parts.0 in
    rw one c.in_ok-write.ensures.bytes

pub loop-number-preserved : goal.loop-number-preserved
loop-number-preserved c =
    let parts = c.in-Some.ensures.cases in
    let i = c.loop-number.number-index in
    let more = numbers_text-more c.args.numbers.now (i + 1) (omega arith) (omega (arith, parts.1)) in
    let same : get_or c.args.numbers.now (i + 1) 0 ≡ get_or c.in-Some.rest.now i 0 = rw (parts.0, add-one) refl in
    c.in_ok-write-2.ensures.bytes
    ∙ ap (λ t. t ++ 44 ∷ decimal (get_or c.in-Some.rest.now i 0)) c.loop-number.invariant
    ∙ append_assoc (string_bytes c.args.text.now) (numbers_text (take (i + 1) c.args.numbers.now)) (44 ∷ decimal (get_or c.in-Some.rest.now i 0))
    ∙ ap (λ t. string_bytes c.args.text.now ++ t) (sym (more ∙ ap (λ n. numbers_text (take (i + 1) c.args.numbers.now) ++ 44 ∷ decimal n) same))
