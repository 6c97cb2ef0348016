-- What is written of none, and of some.
use Rattle.std.proofs.Common.{rules, arith, ◌≡◌, ◌∙◌, sym}
use Rattle.std.proofs.lemmas.Bool.{eqb-false, eqb-true}
use Rattle.notation.specs.Parts.{bytes_text}
use Rattle.notation.proofs.ByteTexts.{bytes_text-none, bytes_text-some}
use Rattle.notation.proofs.bytes.write_bytes.Goals as goal

pub returns-then-is_empty : goal.returns-then-is_empty
returns-then-is_empty c =
    let none = bytes_text-none c.args.bytes.now (eqb-true _ _ (sym c.is_empty.ensures ∙ c.if-is_empty.true)) in
    rw none (search rules)

pub returns : goal.returns
returns c =
    let some = bytes_text-some c.args.bytes.now (omega (arith, eqb-false _ _ (sym c.is_empty.ensures ∙ c.if-is_empty.false))) in
    let written : c.as_str.result.now ≡ bytes_text c.args.bytes.now = c.as_str.ensures.value ∙ c.in_ok-digits.ensures ∙ sym some in
    rw (← written) (search rules)
