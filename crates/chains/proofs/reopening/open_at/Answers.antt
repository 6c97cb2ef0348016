-- What is left to show of `open_at`.
use Rattle.std.proofs.Common.{◌∙◌}
use Rattle.forms.specs.Opening.{opening_told, decoding_told}
use Rattle.chains.proofs.Opened.{opened_at, rest_of, is_ok, meant_by}
use Rattle.chains.proofs.reopening.open_at.Goals as goal

pub unwrap-requires : goal.unwrap-requires
unwrap-requires c =
    let l = c.args.last in
    let bytes = c.args.bytes.now in
    let numbers = c.args.numbers.now in
    is_ok c.open.result
    (c.open.ensures.answer
    ∙ (λ i. opening_told l.told (rest_of bytes l.bytes_at i) (rest_of numbers l.numbers_at i))
    ∙ (opened_at l c.requires.0 bytes numbers c.requires.2 c.requires.1).0)

pub returns-clause-means : goal.returns-clause-means
returns-clause-means c s sized lies =
    let l = c.args.last in
    let bytes = c.args.bytes.now in
    let numbers = c.args.numbers.now in
    meant_by c.open.result c.unwrap.result _ c.unwrap.ensures c.open.ensures.means
    ∙ (λ i. decoding_told l.told (rest_of bytes l.bytes_at i) (rest_of numbers l.numbers_at i))
    ∙ (opened_at l s bytes numbers lies sized).1
