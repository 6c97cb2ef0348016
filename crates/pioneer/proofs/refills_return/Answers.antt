-- What is left to show of `refills_return`.
use Rattle.std.proofs.Common.{[], ◌∷◌, length}
use Rattle.pioneer.proofs.Demands.{taken}
use Rattle.pioneer.proofs.Refilled.{long, counted, starts_again, sums_again}
use Rattle.pioneer.proofs.refills_return.Goals as goal

pub returns : goal.returns
returns c = λ u n starts sums small_starts small_sums e.
    let t = taken u n starts sums e in
    let a = starts_again u n starts sums t small_starts in
    let b = sums_again u n starts sums t small_sums in
    (λ i. record { last = long u n starts sums t i; count = counted u n starts sums t i; starts = length (a i); sums = length (b i) }, λ i. a i ∷ b i ∷ [])
