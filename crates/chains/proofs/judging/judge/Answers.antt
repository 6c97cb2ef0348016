-- What is left to show of `judge`.
use Rattle.std.proofs.Common.{◌≡◌, Ok, Err, refl, ap, ◌∙◌, rules}
use Rattle.opening.specs.declared.fault.Side.TheVariants.{C}
use Rattle.chains.specs.declared.extent.Extent.{Extent}
use Rattle.chains.specs.Judging.{stages, numbered, rooming}
use Rattle.chains.proofs.Laws.{judging_law}
use Rattle.chains.proofs.Sides.{in_turn}
use Rattle.chains.proofs.judging.judge.Goals as goal

pub returns-in_err-check_sizes : goal.returns-in_err-check_sizes
returns-in_err-check_sizes g c =
    let f = g.F.Walking.meant c.args.free.now in
    let k = g.C.Walking.meant c.args.class.now in
    let m = c.args.bytes in
    let n = c.args.numbers in
    let gives : c.from_residual.result ≡ Err c.in_err-check_sizes.field-0.0 = search rules in
    let answer = gives ∙ in_turn f k c.args.plan m n (Err c.in_err-check_sizes.field-0.0) _ _ _ (c.in_err-check_sizes.ensures f) refl refl refl in
    record { answer = answer; law = judging_law (stages f k c.args.plan) m n _ answer }

pub returns-in_err-check_sizes-2 : goal.returns-in_err-check_sizes-2
returns-in_err-check_sizes-2 g c =
    let f = g.F.Walking.meant c.args.free.now in
    let k = g.C.Walking.meant c.args.class.now in
    let m = c.args.bytes in
    let n = c.args.numbers in
    let e = c.in_err-check_sizes-2.field-0.0 in
    let gives : c.from_residual-in_err-check_sizes-2.result ≡ Err e = search rules in
    let answer = gives ∙ in_turn f k c.args.plan m n (Ok tt) (Err e) _ _ (c.in_ok-check_sizes.ensures f) (c.in_err-check_sizes-2.ensures k) refl refl in
    record { answer = answer; law = judging_law (stages f k c.args.plan) m n _ answer }

pub returns-in_err-room : goal.returns-in_err-room
returns-in_err-room g c =
    let f = g.F.Walking.meant c.args.free.now in
    let k = g.C.Walking.meant c.args.class.now in
    let m = c.args.bytes in
    let n = c.args.numbers in
    let e = c.in_err-room.field-0.0 in
    let gives : c.from_residual-in_err-room.result ≡ Err e = search rules in
    let answer =
    gives ∙ in_turn f k c.args.plan m n (Ok tt) (Ok tt) (Err e) _ (c.in_ok-check_sizes.ensures f) (c.in_ok-check_sizes-2.ensures k) c.in_err-room.ensures.answer refl in
    record { answer = answer; law = judging_law (stages f k c.args.plan) m n _ answer }

pub returns-in_err-check_chain : goal.returns-in_err-check_chain
returns-in_err-check_chain g c =
    let f = g.F.Walking.meant c.args.free.now in
    let k = g.C.Walking.meant c.args.class.now in
    let m = c.args.bytes in
    let n = c.args.numbers in
    let e = c.in_err-check_chain.field-0.0 in
    let gives : c.from_residual-in_err-check_chain.result ≡ Err e = search rules in
    let behind = ap (λ (r : Extent). rooming (numbered C k 1 c.args.plan.class.now) r.bytes r.numbers) c.in_ok-room.ensures.left in
    let answer =
    gives
    ∙ in_turn f k c.args.plan m n (Ok tt) (Ok tt) (Ok tt) (Err e) (c.in_ok-check_sizes.ensures f) (c.in_ok-check_sizes-2.ensures k) c.in_ok-room.ensures.answer
    (c.in_err-check_chain.ensures.answer ∙ behind) in
    record { answer = answer; law = judging_law (stages f k c.args.plan) m n _ answer }

pub returns : goal.returns
returns g c =
    let f = g.F.Walking.meant c.args.free.now in
    let k = g.C.Walking.meant c.args.class.now in
    let m = c.args.bytes in
    let n = c.args.numbers in
    let behind = ap (λ (r : Extent). rooming (numbered C k 1 c.args.plan.class.now) r.bytes r.numbers) c.in_ok-room.ensures.left in
    let answer =
    in_turn f k c.args.plan m n (Ok tt) (Ok tt) (Ok tt) (Ok tt) (c.in_ok-check_sizes.ensures f) (c.in_ok-check_sizes-2.ensures k) c.in_ok-room.ensures.answer
    (c.in_ok-check_chain.ensures.answer ∙ behind) in
    record { answer = answer; law = judging_law (stages f k c.args.plan) m n _ answer }
