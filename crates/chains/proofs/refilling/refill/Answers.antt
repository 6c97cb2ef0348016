-- What is left to show of `refill`.
use Rattle.std.proofs.Common.{take, get_or, sym, ap, subst, ◌∙◌, arith}
use Rattle.forms.specs.Choices.{SizeFits}
use Rattle.forms.specs.Laying.{bytes_of, numbers_of}
use Rattle.forms.specs.Telling.{told_of}
use Rattle.forms.specs.declared.choice.Choice.TheVariants.{Plain}
use Rattle.chains.specs.Laid.{LiesIn, over_at}
use Rattle.chains.specs.declared.extent.Extent.{Extent}
use Rattle.chains.proofs.Refilled.{each_at, lies_before, bytes_room, numbers_room, last_more, bytes_more, numbers_more, lies_more}
use Rattle.chains.proofs.refilling.refill.Goals as goal

pub step-requires : goal.step-requires
step-requires g c =
    let s = g.S.Walking.meant c.args.set.now in
    let start = c.args.start in
    let choices = c.args.choices.now in
    let l = c.loop-choice in
    let lt = c.loop-choice-test.true in
    let at = ap (λ (e : Extent). e.bytes) c.behind-at.ensures in
    let numbers_at = ap (λ (e : Extent). e.numbers) c.behind-at.ensures in
    record {
      size = each_at SizeFits choices l.choice-index Plain c.requires.sizes lt;
      lies = subst (λ (e : Extent). LiesIn l.last s (take e.bytes l.bytes) (take e.numbers l.numbers)) (sym c.behind-at.ensures) (lies_before l.last start s l.bytes l.numbers l.invariant.lies);
      bytes = omega (arith, at, bytes_room start choices s l.choice-index lt l.last l.invariant.last c.args.bytes.now c.requires.bytes, l.auto.bytes);
      numbers = omega (arith, numbers_at, numbers_room start choices s l.choice-index lt l.last l.invariant.last c.args.numbers.now c.requires.numbers, l.auto.numbers);
    }

pub loop-choice-preserved : goal.loop-choice-preserved
loop-choice-preserved g c =
    let s = g.S.Walking.meant c.args.set.now in
    let start = c.args.start in
    let choices = c.args.choices.now in
    let l = c.loop-choice in
    let i = l.choice-index in
    let lt = c.loop-choice-test.true in
    let done = l.invariant.last in
    let x = get_or choices i Plain in
    let at = c.behind-at.ensures in
    let is = c.step.ensures.is ∙ ap (λ (e : Extent). record { told = told_of x s; bytes_at = e.bytes; numbers_at = e.numbers }) at in
    let bytes = c.step.ensures.bytes ∙ ap (λ (e : Extent). over_at e.bytes (bytes_of x s) l.bytes) at in
    let numbers = c.step.ensures.numbers ∙ ap (λ (e : Extent). over_at e.numbers (numbers_of x s) l.numbers) at in
    let room = bytes_room start choices s i lt l.last done c.args.bytes.now c.requires.bytes in
    let numbers_room = numbers_room start choices s i lt l.last done c.args.numbers.now c.requires.numbers in
    record {
      last = last_more start choices s i lt l.last done c.step.result is;
      lies =
          lies_more start choices s i lt l.last done c.requires.sizes c.step.result is l.bytes l.numbers c.step.new.bytes c.step.new.numbers
          (omega (arith, room, l.auto.bytes)) (omega (arith, numbers_room, l.auto.numbers)) bytes numbers;
      bytes = bytes_more start choices s i lt l.last done c.args.bytes.now l.bytes c.step.new.bytes c.requires.bytes l.invariant.bytes bytes;
      numbers = numbers_more start choices s i lt l.last done c.args.numbers.now l.numbers c.step.new.numbers c.requires.numbers l.invariant.numbers numbers;
    }
