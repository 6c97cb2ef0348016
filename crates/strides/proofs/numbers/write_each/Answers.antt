-- What is left to show of `write_each`.
use Rattle.std.proofs.Common.{refl, arith}
use Rattle.strides.proofs.Numbering.{room_left, written_more, written_all}
use Rattle.strides.proofs.numbers.write_each.Goals as goal

pub bounds-out-n : goal.bounds-out-n
bounds-out-n c = omega (arith, room_left _ _ _ _ _ _ c.requires.room c.loop-left.invariant (omega arith), c.loop-left.invariant.size)

pub overflow_add-n : goal.overflow_add-n
overflow_add-n c = omega (arith, room_left _ _ _ _ _ _ c.requires.room c.loop-left.invariant (omega arith))

pub loop-left-preserved : goal.loop-left-preserved
loop-left-preserved c = written_more _ _ _ _ _ _ c.requires.room c.loop-left.invariant _ (omega arith) refl

pub returns : goal.returns
returns c = written_all _ _ _ _ _ _ c.requires.room c.loop-left.invariant (omega arith)
