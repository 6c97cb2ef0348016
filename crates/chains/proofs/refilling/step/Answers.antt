-- What is left to show of `step`.
use Rattle.std.proofs.Common.{◌≤◌, length, ap, ◌∙◌, arith}
use Rattle.forms.specs.Laying.{bytes_of, numbers_of, laying}
use Rattle.forms.proofs.Laid.{laying_ok}
use Rattle.chains.proofs.Opened.{is_ok}
use Rattle.chains.proofs.refilling.step.Goals as goal

pub unwrap-requires : goal.unwrap-requires
unwrap-requires g c =
    let s = g.S.Walking.meant c.args.set.now in
    let x = c.args.choice in
    let room = c.split_at_mut-filled.result.1.now in
    let numbers_room = c.split_at_mut-numbers_filled.result.1.now in
    let bytes : length (bytes_of x s) ≤ length room = omega (arith, c.requires.bytes, c.split_at_mut-filled.ensures.back_len) in
    let numbers : length (numbers_of x s) ≤ length numbers_room = omega (arith, c.requires.numbers, c.split_at_mut-numbers_filled.ensures.back_len) in
    is_ok c.fill.result
    (c.fill.ensures.answer
    ∙ ap (λ t. laying x t room numbers_room) c.latest-source.ensures.means
    ∙ laying_ok x s room numbers_room c.requires.size bytes numbers)
