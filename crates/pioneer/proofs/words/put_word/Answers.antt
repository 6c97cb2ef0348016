-- What is left to show of `put_word`.
use Rattle.std.proofs.Common.{◌≡◌, ◌*◌, ◌/◌, ◌%◌, ◌^◌, get_or, ap, ◌∙◌, rules}
use Rattle.std.proofs.lemmas.List.{places}
use Rattle.bits.proofs.Laid.{byte_of}
use Rattle.pioneer.proofs.Stretches.{laid_front}
use Rattle.pioneer.proofs.words.put_word.Goals as goal

pub returns-then-n-ge8-clause-front : goal.returns-then-n-ge8-clause-front
returns-then-n-ge8-clause-front c f held front =
    let x = c.args.x in
    laid_front f c.args.w x c.args.bytes.now _ (search (rules, places)) (λ j l. search (rules, places)) (λ t l within.
    let here : get_or c.copy_from_slice.new.self t 0 ≡ get_or c.to_le_bytes-eight.result t 0 = ap (λ bs. get_or bs t 0) c.copy_from_slice.ensures.after in
    let there : get_or c.to_le_bytes-eight.result t 0 ≡ x / 2 ^ (8 * t) % 256 = ap (λ bs. get_or bs t 0) c.to_le_bytes-eight.ensures ∙ byte_of x t l in
    search (rules, places) ∙ here ∙ there) held front

pub returns-else-n-ge8-clause-front : goal.returns-else-n-ge8-clause-front
returns-else-n-ge8-clause-front c f held front =
    let x = c.args.x in
    laid_front f c.args.w x c.args.bytes.now _ (search (rules, places)) (λ j l. search (rules, places)) (λ t l within.
    let here : get_or c.copy_from_slice-else-n-ge8.new.self t 0 ≡ get_or c.to_le_bytes-eight.result t 0 = ap (λ bs. get_or bs t 0) c.copy_from_slice-else-n-ge8.ensures.after ∙ search (rules, places) in
    let there : get_or c.to_le_bytes-eight.result t 0 ≡ x / 2 ^ (8 * t) % 256 = ap (λ bs. get_or bs t 0) c.to_le_bytes-eight.ensures ∙ byte_of x t l in
    search (rules, places) ∙ here ∙ there) held front
