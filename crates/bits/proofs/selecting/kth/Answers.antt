-- What is left to show of `kth`.
use Rattle.std.proofs.Common.{◌≡◌, ◌+◌, ◌*◌, ◌/◌, ◌<◌, None, ap, ◌∙◌, ⊎_elim, inl, inr, arith}
use Rattle.std.proofs.lemmas.Bool.{cases_lt}
use Rattle.sets.specs.Search.{count_to}
use Rattle.sets.proofs.Tests.{count_mono, kth_by}
use Rattle.bits.specs.Bits.{is_bit}
use Rattle.bits.proofs.Held.{count_word, kth_in, up_kth}
use Rattle.bits.proofs.selecting.kth.Goals as goal

pub returns-then-k-eq0 : goal.returns-then-k-eq0
returns-then-k-eq0 c = kth_by _ _ _ None (inl c.if-k-eq0.true)

-- there are not so many
few : (c : goal.Then-left-v) → count_to (is_bit c.args.bytes.now c.args.sort) c.args.last < c.args.k
few c =
    let f = is_bit c.args.bytes.now c.args.sort in
    let w = c.word_with-w.result.0 in
    let start : 64 * (8 * c.stretch_with-stretch.result.0) ≡ 512 * c.stretch_with-stretch.result.0 = omega arith in
    ⊎_elim
    (λ inside. absurd (omega (arith, c.word_with-w.ensures.here inside, count_word f w _ c.word-v.ensures)))
    (λ end.
    omega (arith, c.word_with-w.ensures.left, c.stretch_with-stretch.ensures.left, ap (count_to f) start, count_word f w _ c.word-v.ensures, count_mono f c.args.last (64 * w + 64) (omega arith)))
    (cases_lt w (c.args.last / 64))

pub returns-then-left-v : goal.returns-then-left-v
returns-then-left-v c = kth_by _ _ _ None (inr (few c))

pub returns : goal.returns
returns c =
    let f = is_bit c.args.bytes.now c.args.sort in
    let place = c.place_in_word.ensures in
    let w = c.word_with-w.result.0 in
    let q = 64 * w + 1 + c.place_in_word.result in
    let here = kth_in f _ 64 _ _ q c.word-v.ensures place.below place.hit (omega arith) in
    let at : 8 * (8 * w) ≡ 64 * w = omega arith in
    let start : 64 * (8 * c.stretch_with-stretch.result.0) ≡ 512 * c.stretch_with-stretch.result.0 = omega arith in
    c.at_most.ensures
    ∙ up_kth f _ c.args.last q (omega arith) here.0 (omega (arith, here.1, place.kth, c.word_with-w.ensures.left, c.stretch_with-stretch.ensures.left, ap (count_to f) start, ap (count_to f) at))
