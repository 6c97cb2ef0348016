-- What is left to show of `next_word`.
use Rattle.std.proofs.Common.{◌*◌, arith}
use Rattle.bits.proofs.Held.{none_past}
use Rattle.pioneer.proofs.Taking.{none_joined}
use Rattle.pioneer.proofs.ones.next_word.Goals as goal

pub loop-word-preserved : goal.loop-word-preserved
loop-word-preserved c =
    let none = none_past _ _ 64 _ 0 c.row-ones.ensures (omega arith) in
    none_joined _ _ (64 * c.loop-word.word) _ c.loop-word.invariant (λ j a b. none j (omega arith) (omega arith))
