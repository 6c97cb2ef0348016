-- What is left to show of `check_chain`.
use Rattle.std.proofs.Common.{◌≡◌, suc, ◌+◌, ◌-◌, length, drop, Ok, sym, ap, ◌∙◌, rules}
use Rattle.forms.specs.Verdicts.{verdict_of}
use Rattle.chains.specs.declared.extent.Extent.{Extent}
use Rattle.chains.specs.Judging.{numbered, rooming}
use Rattle.chains.specs.Laid.{laid_bytes, laid_numbers}
use Rattle.chains.proofs.Judged.{sized_on, roomed_on, bytes_on, numbers_on, left_is}
use Rattle.chains.proofs.judging.check_chain.Goals as goal

taken : (g : _) (c : goal.In_ok-left g) → c.take_room.result ≡ Ok c.in_ok-left.left
taken g c = search rules

pub loop-before-preserved : goal.loop-before-preserved
loop-before-preserved g c =
    let s = g.S.Walking.meant c.args.set.now in
    let choices = c.args.choices.now in
    let l = c.loop-before in
    let i = l.before in
    let lt = c.loop-before-test.true in
    let behind = drop (i + 1) choices in
    let was = taken g c in
    let ok = ap verdict_of (sym was) ∙ c.take_room.ensures.answer in
    let rest = sym (left_is c.take_room.result c.in_ok-left.left _ was c.take_room.ensures.left) in
    record {
      sized = sized_on c.args.side s choices i lt l.invariant.sized;
      answer =
          l.invariant.answer ∙ roomed_on c.args.side s choices i lt l.invariant.sized l.left.bytes l.left.numbers ok
          ∙ ap (λ (r : Extent). rooming (numbered c.args.side s (suc (i + 1)) behind) r.bytes r.numbers) rest;
      bytes = l.invariant.bytes ∙ bytes_on c.args.side s choices i lt l.left.bytes ∙ ap (λ (r : Extent). r.bytes - length (laid_bytes behind s)) rest;
      numbers = l.invariant.numbers ∙ numbers_on c.args.side s choices i lt l.left.numbers ∙ ap (λ (r : Extent). r.numbers - length (laid_numbers behind s)) rest;
    }
