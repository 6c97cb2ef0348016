-- What each kind of word is read as.
use Rattle.std.proofs.Common.{arith, ◌<◌, ◌∙◌, ap, sym, length, Some, inl, inr}
use Rattle.std.specs.Result.{result_ok}
use Rattle.std.proofs.lemmas.Bool.{eqb-false, eqb-true}
use Rattle.notation.proofs.ByteTexts.{bytes_of-dash, bytes_of-empty, bytes_of-hex}
use Rattle.notation.proofs.bytes.read_bytes.Goals as goal

pub returns-then-is_dash : goal.returns-then-is_dash
returns-then-is_dash c =
    ap Some c.new.ensures.items ∙ sym (bytes_of-dash c.args.word.now (sym c.is_dash.ensures ∙ c.if-is_dash.true))

pub returns-then-is_empty : goal.returns-then-is_empty
returns-then-is_empty c = sym (bytes_of-empty c.args.word.now (eqb-true _ _ (sym c.is_empty.ensures ∙ c.if-is_empty.true)))

pub returns-in-Ok : goal.returns-in-Ok
returns-in-Ok c =
    let some : 0 < length c.args.word.now = omega (arith, eqb-false _ _ (sym c.is_empty.ensures ∙ c.if-is_empty.false)) in
    sym (bytes_of-hex c.args.word.now (sym c.is_dash.ensures ∙ c.if-is_dash.false) some ∙ ap result_ok c.in-Ok.ensures.ok)

pub returns-in_default : goal.returns-in_default
returns-in_default c =
    let some : 0 < length c.args.word.now = omega (arith, eqb-false _ _ (sym c.is_empty.ensures ∙ c.if-is_empty.false)) in
    sym (bytes_of-hex c.args.word.now (sym c.is_dash.ensures ∙ c.if-is_dash.false) some
    ∙ elim c.in-Err.ensures.err [
      | inl no_memory ↦ absurd (c.in_default.not-OutOfMemory no_memory)
      | inr refused ↦ ap result_ok refused
    ])
