-- What each way out of the reading says of the word.
use Rattle.std.proofs.Common.{◌≡◌, ◌<◌, ◌+◌, arith, ap, length, take, sym, ◌∙◌}
use Rattle.std.specs.Prelude.{Some}
use Rattle.std.specs.Str.Parse.{digits_value}
use Rattle.std.proofs.lemmas.Bool.{eqb-false, eqb-true}
use Rattle.std.proofs.lemmas.List.{take_all}
use Rattle.notation.proofs.Numerals.{number_of-above, number_of-digits, number_of-none, number_of-stopped, AllDigits-more, digits_value-more}
use Rattle.notation.proofs.number.read_number.Goals as goal

pub returns-then-is_empty : goal.returns-then-is_empty
returns-then-is_empty c =
    let none : length c.args.word.now ≡ 0 = eqb-true _ _ (sym c.is_empty.ensures ∙ c.if-is_empty.true) in
    sym (number_of-none c.args.most c.args.word.now (λ some digits low. omega arith))

pub returns-then-not-is_ascii_digit : goal.returns-then-not-is_ascii_digit
returns-then-not-is_ascii_digit c =
    sym (number_of-stopped c.args.most c.args.word.now c.loop-digit.digit-index c.loop-digit-test.true c.if-not-is_ascii_digit.ensures.cases)

pub returns-in_err-checked_mul : goal.returns-in_err-checked_mul
returns-in_err-checked_mul c =
    let more = digits_value-more c.args.word.now c.loop-digit.digit-index c.loop-digit.worth c.loop-digit-test.true
    c.if-not-is_ascii_digit.ensures.cases c.loop-digit.invariant.value in
    let high : c.args.most < digits_value 10 (take (c.loop-digit.digit-index + 1) c.args.word.now) = omega (arith, more, c.in_err-checked_mul.ensures) in
    c.from_residual.ensures ∙ sym (number_of-above c.args.most c.args.word.now (c.loop-digit.digit-index + 1) high)

pub returns-in_err-worth : goal.returns-in_err-worth
returns-in_err-worth c =
    let more = digits_value-more c.args.word.now c.loop-digit.digit-index c.loop-digit.worth c.loop-digit-test.true
    c.if-not-is_ascii_digit.ensures.cases c.loop-digit.invariant.value in
    let high : c.args.most < digits_value 10 (take (c.loop-digit.digit-index + 1) c.args.word.now) =
    omega (arith, more, c.in_ok-checked_mul.ensures, c.from.ensures, c.in_err-worth.ensures) in
    c.from_residual-in_err-worth.ensures ∙ sym (number_of-above c.args.most c.args.word.now (c.loop-digit.digit-index + 1) high)

pub loop-digit-preserved : goal.loop-digit-preserved
loop-digit-preserved c =
    let more = digits_value-more c.args.word.now c.loop-digit.digit-index c.loop-digit.worth c.loop-digit-test.true
    c.if-not-is_ascii_digit.ensures.cases c.loop-digit.invariant.value in
    record {
      digits = AllDigits-more c.args.word.now c.loop-digit.digit-index c.loop-digit-test.true c.if-not-is_ascii_digit.ensures.cases
          c.loop-digit.invariant.digits;
      value = omega (arith, more, c.in_ok-checked_mul.ensures, c.from.ensures, c.in_ok-worth.ensures);
    }

pub returns-else-worth-most : goal.returns-else-worth-most
returns-else-worth-most c =
    sym (number_of-above c.args.most c.args.word.now c.loop-digit.digit-index (omega arith))

pub returns-then-worth-most : goal.returns-then-worth-most
returns-then-worth-most c =
    let some : 0 < length c.args.word.now = omega (arith, eqb-false _ _ (sym c.is_empty.ensures ∙ c.if-is_empty.false)) in
    let whole = take_all c.loop-digit.digit-index c.args.word.now c.loop-digit-test.false in
    let value = rw whole at c.loop-digit.invariant.value in
    ap Some value ∙ sym (number_of-digits c.args.most c.args.word.now some (rw whole at c.loop-digit.invariant.digits) (rw value at c.if-worth-most.true))
