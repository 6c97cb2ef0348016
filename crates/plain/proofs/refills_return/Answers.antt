-- What is left to show of `refills_return`.
use Rattle.std.proofs.Common.{[], ◌∷◌, length}
use Rattle.sets.specs.Made.{made_length}
use Rattle.bits.specs.Bits.{bit_at}
use Rattle.plain.proofs.Opened.{refilled}
use Rattle.plain.proofs.refills_return.Goals as goal

pub returns : goal.returns
returns c = λ u bytes small e.
    let last = made_length u (bit_at bytes) in
    let same = refilled u bytes small e in
    (λ i. record { last = last i; bits = length (same i) }, λ i. same i ∷ [])
