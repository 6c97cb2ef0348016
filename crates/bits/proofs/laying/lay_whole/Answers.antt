-- What is left to show of `lay_whole`.
use Rattle.std.proofs.Common.{◌≡◌, ◌*◌, ◌/◌, ◌%◌, ◌^◌, get_or, bit_or, ap, ◌∙◌, rules}
use Rattle.std.proofs.lemmas.List.{places}
use Rattle.bits.proofs.Laid.{laid_adds, byte_of}
use Rattle.bits.proofs.laying.lay_whole.Goals as goal

pub returns-clause-ones : goal.returns-clause-ones
returns-clause-ones c =
    let w = bit_or c.whole_word.result c.args.x in
    laid_adds c.args.bytes.now _ c.args.k c.args.x c.whole_word.result c.whole_word.ensures c.ranges.x.fits (λ j l. search (rules, places)) (λ j l. search (rules, places)) (λ j l within.
    let here : get_or c.copy_from_slice.new.self j 0 ≡ get_or c.to_le_bytes-w.result j 0 = ap (λ bs. get_or bs j 0) c.copy_from_slice.ensures.after in
    let there : get_or c.to_le_bytes-w.result j 0 ≡ w / 2 ^ (8 * j) % 256 = ap (λ bs. get_or bs j 0) c.to_le_bytes-w.ensures ∙ byte_of w j l in
    search (rules, places) ∙ here ∙ there)
