-- What is left to show of `put_numbers`.
use Rattle.std.proofs.Common.{ℕ, ◌+◌, ◌-◌, ◌*◌, ◌≤◌, ◌<◌, get_or, length, false, sym, ap, ◌∙◌, arith, add-one}
use Rattle.bits.proofs.Fronts.{over_whole, zeros_whole}
use Rattle.sets.specs.Packing.{pack}
use Rattle.list.proofs.Put.{put_to, put_none, put_more, put_all}
use Rattle.list.proofs.putting.put_numbers.Goals as goal

pub loop-number-init : goal.loop-number-init
loop-number-init c =
    let out = c.args.out.now in
    let n = 8 * length out in
    let cleared = zeros_whole out c.fill.new.self (c.fill.ensures.after (λ y e. e)) in
    (c.fill.ensures.len, cleared ∙ over_whole out (λ j. false) ∙ put_none c.args.numbers.now c.args.before n)

pub loop-number-preserved : goal.loop-number-preserved
loop-number-preserved c =
    let out = c.args.out.now in
    let ns = c.args.numbers.now in
    let k = c.loop-number.number-index in
    let n = 8 * length out in
    let here = c.requires.behind k c.loop-number-test.true in
    let inv = c.loop-number.invariant in
    let place = get_or ns k 0 - c.args.before in
    let fits : place ≤ n = omega (arith, inv.0) in (
      c.put.ensures.long ∙ inv.0,
      c.put.ensures.bits n (put_to ns c.args.before n k) out fits (inv.1 ∙ sym (over_whole out _)) (omega arith)
          ∙ over_whole out _
          ∙ put_more ns c.args.before n k place c.loop-number-test.true (omega (arith, here))
          ∙ ap (λ (m : ℕ). pack n (put_to ns c.args.before n m)) (sym (add-one k)),
    )

pub returns-then-place-room : goal.returns-then-place-room
returns-then-place-room c =
    let ns = c.args.numbers.now in
    let k = c.loop-number.number-index in
    let n = 8 * length c.args.out.now in
    let small : get_or ns k 0 < 65536 = (c.type_inv.numbers k).fits in
    let past : c.args.before + n < get_or ns k 0 = omega (arith, c.fill.ensures.len) in
    c.loop-number.invariant.1 ∙ put_all ns c.args.before n c.requires.climbs k (λ l. past)
