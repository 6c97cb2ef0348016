-- What each piece adds.
use Rattle.std.proofs.Common.{rules, arith, ◌∙◌, ap, sym, length, map, ℕ, List}
use Rattle.std.specs.Prelude.{◌==◌, Some}
use Rattle.std.specs.List.{slice_split}
use Rattle.std.proofs.lemmas.Iterator.Consumers.{YieldsList-at, YieldsList-end, YieldsList-turn}
use Rattle.std.proofs.lemmas.Iterator.Splits.{YieldsList-from_slice_split}
use Rattle.std.proofs.lemmas.List.{length_push, take_all}
use Rattle.notation.specs.Numbers.{all_there, number_of}
use Rattle.notation.proofs.NumberLists.{all_there-more, all_there-none, number_of-le, numbers_of-dash, numbers_of-pieces}
use borrow.Author.Tests.{tests}
use Rattle.notation.proofs.numbers.read_numbers.Goals as goal

pub returns-then-is_dash : goal.returns-then-is_dash
returns-then-is_dash c =
    ap Some c.new-numbers.ensures.items ∙ sym (numbers_of-dash c.args.word.now (sym c.is_dash.ensures ∙ c.if-is_dash.true))

pub returns-in_default : goal.returns-in_default
returns-in_default c =
    let turn = YieldsList-turn (YieldsList-at c.into_iter-piece-iterator.ensures.into_iter_gives
    (YieldsList-from_slice_split _ (λ b. b == 44) c.args.word.now c.split-piece-items.ensures.rest c.split-piece-items.ensures.done
    c.split-piece-items.ensures.closure (λ x r q k. search (rules, tests))))
    c.loop-piece.yielded _ c.loop-piece.yielded_by _ _ c.in-Some.piece c.in-Some.is c.next.ensures.steps in
    let none = sym (rw c.from.ensures at c.read_number.ensures) ∙ c.in_default.is in
    sym (numbers_of-pieces c.args.word.now (sym c.is_dash.ensures ∙ c.if-is_dash.false)
    ∙ all_there-none (slice_split (λ b. b == 44) c.args.word.now) (length c.loop-piece.yielded) c.in-Some.piece.now turn.0 turn.1 none)

pub overflow_cast-number : goal.overflow_cast-number
overflow_cast-number c =
    let low = number_of-le c.from.result c.in-Some.piece.now c.in-Some-read_number.number (sym c.read_number.ensures ∙ c.in-Some-read_number.is) in
    omega (arith, low, c.from.ensures)

pub loop-piece-preserved : goal.loop-piece-preserved
loop-piece-preserved c =
    let turn = YieldsList-turn (YieldsList-at c.into_iter-piece-iterator.ensures.into_iter_gives
    (YieldsList-from_slice_split _ (λ b. b == 44) c.args.word.now c.split-piece-items.ensures.rest c.split-piece-items.ensures.done
    c.split-piece-items.ensures.closure (λ x r q k. search (rules, tests))))
    c.loop-piece.yielded _ c.loop-piece.yielded_by _ _ c.in-Some.piece c.in-Some.is c.next.ensures.steps in
    let some = sym (rw c.from.ensures at c.read_number.ensures) ∙ c.in-Some-read_number.is in
    rw (length_push c.loop-piece.yielded c.in-Some.piece, c.in_ok-push.ensures.items)
    (all_there-more (slice_split (λ b. b == 44) c.args.word.now) (length c.loop-piece.yielded) c.in-Some.piece.now c.loop-piece.numbers.items
    c.in-Some-read_number.number turn.0 turn.1 some c.loop-piece.invariant)

pub returns : goal.returns
returns c =
    let end = YieldsList-end (YieldsList-at c.into_iter-piece-iterator.ensures.into_iter_gives
    (YieldsList-from_slice_split _ (λ b. b == 44) c.args.word.now c.split-piece-items.ensures.rest c.split-piece-items.ensures.done
    c.split-piece-items.ensures.closure (λ x r q k. search (rules, tests))))
    c.loop-piece.yielded _ c.loop-piece.yielded_by _ _ c.in-None.is c.next.ensures.steps in
    let pieces : List (List ℕ) = slice_split (λ b. b == 44) c.args.word.now in
    sym (numbers_of-pieces c.args.word.now (sym c.is_dash.ensures ∙ c.if-is_dash.false)
    ∙ ap (λ some. all_there (map (number_of 65535) some)) (sym (take_all (length c.loop-piece.yielded) pieces (omega (arith, end.1))))
    ∙ c.loop-piece.invariant)
