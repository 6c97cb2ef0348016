-- What is left to show of `take_room`.
use Rattle.std.proofs.Common.{sym, arith}
use Rattle.chains.proofs.Within.{told_within}
use Rattle.chains.proofs.judging.take_room.Goals as goal

pub overflow_sub-result : goal.overflow_sub-result
overflow_sub-result g c =
    let fits = told_within c.in_ok-told.told c.args.room.bytes c.args.room.numbers (sym c.in_ok-check_rooms.ensures.answer) in
    omega (arith, c.bytes.ensures, fits.0)

pub overflow_sub-result-2 : goal.overflow_sub-result-2
overflow_sub-result-2 g c =
    let fits = told_within c.in_ok-told.told c.args.room.bytes c.args.room.numbers (sym c.in_ok-check_rooms.ensures.answer) in
    omega (arith, c.numbers.ensures, fits.1)
