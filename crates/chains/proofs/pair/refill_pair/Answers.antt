-- What is left to show of `refill_pair`.
use Rattle.std.proofs.Common.{◌≡◌, length, ap, subst, ◌∙◌, arith}
use Rattle.chains.specs.Laid.{laid_bytes, laid_numbers, over_at, LastIs}
use Rattle.chains.specs.declared.extent.Extent.{Extent}
use Rattle.chains.proofs.Accepted.{accepted}
use Rattle.chains.proofs.Refilled.{over_more, place_is, lies_still}
use Rattle.chains.proofs.pair.refill_pair.Goals as goal

pub refill-free_last-requires : goal.refill-free_last-requires
refill-free_last-requires g c =
    let ok = accepted (g.F.Walking.meant c.args.free.now) (g.C.Walking.meant c.args.class.now) c.args.plan (length c.args.bytes.now) (length c.args.numbers.now) c.in_ok-judge.ensures.answer in
    record { sizes = ok.free; bytes = omega (arith, ok.free_bytes); numbers = omega (arith, ok.free_numbers) }

pub behind-requires-clause-bytes : goal.behind-requires-clause-bytes
behind-requires-clause-bytes g c =
    let f = g.F.Walking.meant c.args.free.now in
    let ok = accepted f (g.C.Walking.meant c.args.class.now) c.args.plan (length c.args.bytes.now) (length c.args.numbers.now) c.in_ok-judge.ensures.answer in
    let place = place_is (record { bytes = 0; numbers = 0 }) c.args.plan.free.now f c.refill-free_last.result c.refill-free_last.ensures.last in
    omega (arith, ok.free_bytes, place.0, c.refill-free_last.auto.bytes)

pub refill-class_last-requires : goal.refill-class_last-requires
refill-class_last-requires g c =
    let f = g.F.Walking.meant c.args.free.now in
    let ok = accepted f (g.C.Walking.meant c.args.class.now) c.args.plan (length c.args.bytes.now) (length c.args.numbers.now) c.in_ok-judge.ensures.answer in
    let place = place_is (record { bytes = 0; numbers = 0 }) c.args.plan.free.now f c.refill-free_last.result c.refill-free_last.ensures.last in
    let at = ap (λ (e : Extent). e.bytes) c.behind.ensures ∙ place.0 in
    let numbers_at = ap (λ (e : Extent). e.numbers) c.behind.ensures ∙ place.1 in
    record {
      sizes = ok.class;
      bytes = omega (arith, at, ok.free_bytes, ok.class_bytes, c.refill-free_last.auto.bytes);
      numbers = omega (arith, numbers_at, ok.free_numbers, ok.class_numbers, c.refill-free_last.auto.numbers);
    }

pub returns-clause-bytes : goal.returns-clause-bytes
returns-clause-bytes g c =
    let f = g.F.Walking.meant c.args.free.now in
    let laid = laid_bytes c.args.plan.free.now f in
    let laid_behind = laid_bytes c.args.plan.class.now (g.C.Walking.meant c.args.class.now) in
    let place = place_is (record { bytes = 0; numbers = 0 }) c.args.plan.free.now f c.refill-free_last.result c.refill-free_last.ensures.last in
    let at = ap (λ (e : Extent). e.bytes) c.behind.ensures ∙ place.0 in
    c.refill-class_last.ensures.bytes
    ∙ (λ i. over_at (at i) laid_behind (c.refill-free_last.ensures.bytes i))
    ∙ over_more 0 laid laid_behind c.args.bytes.now (omega arith)

pub returns-clause-numbers : goal.returns-clause-numbers
returns-clause-numbers g c =
    let f = g.F.Walking.meant c.args.free.now in
    let laid = laid_numbers c.args.plan.free.now f in
    let laid_behind = laid_numbers c.args.plan.class.now (g.C.Walking.meant c.args.class.now) in
    let place = place_is (record { bytes = 0; numbers = 0 }) c.args.plan.free.now f c.refill-free_last.result c.refill-free_last.ensures.last in
    let at = ap (λ (e : Extent). e.numbers) c.behind.ensures ∙ place.1 in
    c.refill-class_last.ensures.numbers
    ∙ (λ i. over_at (at i) laid_behind (c.refill-free_last.ensures.numbers i))
    ∙ over_more 0 laid laid_behind c.args.numbers.now (omega arith)

pub returns-clause-lasts : goal.returns-clause-lasts
returns-clause-lasts g c =
    let f = g.F.Walking.meant c.args.free.now in
    let k = g.C.Walking.meant c.args.class.now in
    let laid = length (laid_bytes c.args.plan.free.now f) in
    let numbers_laid = length (laid_numbers c.args.plan.free.now f) in
    let place = place_is (record { bytes = 0; numbers = 0 }) c.args.plan.free.now f c.refill-free_last.result c.refill-free_last.ensures.last in
    let at : c.behind.result.bytes ≡ laid = omega (arith, ap (λ (e : Extent). e.bytes) c.behind.ensures, place.0) in
    let numbers_at : c.behind.result.numbers ≡ numbers_laid = omega (arith, ap (λ (e : Extent). e.numbers) c.behind.ensures, place.1) in
    let start : c.behind.result ≡ record { bytes = laid; numbers = numbers_laid } = λ i. record { bytes = at i; numbers = numbers_at i } in
    (c.refill-free_last.ensures.last, subst (λ (e : Extent). LastIs e c.args.plan.class.now k c.refill-class_last.result) start c.refill-class_last.ensures.last)

pub returns-clause-lie : goal.returns-clause-lie
returns-clause-lie g c =
    let f = g.F.Walking.meant c.args.free.now in
    let k = g.C.Walking.meant c.args.class.now in
    let bytes = c.refill-free_last.new.bytes in
    let numbers = c.refill-free_last.new.numbers in
    let part = laid_bytes c.args.plan.class.now k in
    let number_part = laid_numbers c.args.plan.class.now k in
    let wrote_bytes = c.refill-class_last.ensures.bytes ∙ ap (λ (e : Extent). over_at e.bytes part bytes) c.behind.ensures in
    let wrote_numbers = c.refill-class_last.ensures.numbers ∙ ap (λ (e : Extent). over_at e.numbers number_part numbers) c.behind.ensures in (
      lies_still c.refill-free_last.result (record { bytes = 0; numbers = 0 }) f bytes numbers c.refill-class_last.new.bytes c.refill-class_last.new.numbers part number_part
          c.refill-free_last.ensures.lies wrote_bytes wrote_numbers,
      c.refill-class_last.ensures.lies,
    )
