-- What is left to show of `refills_return`.
use Rattle.std.proofs.Common.{[], ◌∷◌, length}
use Rattle.sets.specs.Made.{made_length}
use Rattle.list.specs.Decoding.{is_among}
use Rattle.list.proofs.Opened.{refilled}
use Rattle.list.proofs.refills_return.Goals as goal

pub returns : goal.returns
returns c = λ u ns e.
    let last = made_length u (is_among ns) in
    let same = refilled u ns e in
    (λ i. record { last = last i; numbers = length (same i) }, λ i. same i ∷ [])
