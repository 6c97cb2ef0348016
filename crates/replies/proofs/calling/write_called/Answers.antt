-- The answer alone, and one number more.
use Rattle.std.proofs.Common.{◌∙◌, ◌∷◌, ◌++◌, ap, sym, take, get_or, arith}
use Rattle.std.specs.Prelude.{decimal}
use Rattle.std.specs.String.{string_bytes}
use Rattle.std.proofs.lemmas.List.{append-nil, append_assoc}
use Rattle.replies.specs.Sheets.{memory_text}
use Rattle.replies.specs.Texts.{called_text}
use Rattle.replies.proofs.Memories.{memory_text_none, memory_text_more}
use Rattle.replies.proofs.calling.write_called.Goals as goal

pub loop-number-init : goal.loop-number-init
loop-number-init c =
    let answer = called_text c.args.called.0 in
    c.in_ok-write.ensures.bytes
    ∙ ap (λ t. string_bytes c.args.text.now ++ t) (sym (append-nil answer) ∙ ap (λ m. answer ++ m) (sym memory_text_none))

pub loop-number-preserved : goal.loop-number-preserved
loop-number-preserved c =
    let before = string_bytes c.args.text.now in
    let answer = called_text c.args.called.0 in
    let i = c.loop-number.number-index in
    let numbers = c.args.memory.now in
    let number = 32 ∷ decimal (get_or numbers i 0) in
    let so_far = memory_text (take i numbers) in
    c.in_ok-write-2.ensures.bytes
    ∙ ap (λ t. t ++ number) c.loop-number.invariant
    ∙ append_assoc before (answer ++ so_far) number
    ∙ ap (λ t. before ++ t) (append_assoc answer so_far number ∙ ap (λ m. answer ++ m) (sym (memory_text_more numbers i (omega arith))))
