-- What is left to show of `Round::sheet`.
use Rattle.std.proofs.Common.{◌-◌, length, refl, ap, ◌∙◌}
use borrow.Rule.Slice.PartMut.{mid_of, put_mid}
use Rattle.sets.specs.Lists.{over}
use Rattle.round.specs.Rounds.{free_of, class_of}
use Rattle.round.specs.States.{after_sheet}
use Rattle.round.proofs.Rounds.{page_on}
use Rattle.round.proofs.Sheeting.{Done, done_rest}
use Rattle.round.proofs.Taking.{done_is, done_fewest}
use Rattle.round.proofs.state.Round.sheet.Goals as goal

pub returns : goal.returns
returns g c =
    let r = c.args.self.now in
    let n = c.stride-written.result in
    let there = c.stride-written.new.self in
    let out = c.stride-written.new.out in
    let k = length out - n in
    let page = page_on r there (length (mid_of n k out)) c.stride-written.ensures.sets in
    let d : Done (free_of r) (class_of r) r.state c.args.out.now c.fill.new.self.state (put_mid n k out c.fill.new.out) =
    done_rest (free_of r) (class_of r) r.state c.args.out.now n k there.state c.fill.new.self.state out c.fill.new.out c.stride-written.ensures.going refl
    (c.fill.ensures.state ∙ ap (after_sheet there.state) page) (c.fill.ensures.writes ∙ ap (λ p. over p.bays (mid_of n k out)) page) in
    record {
      answer = λ i. record { bays = d.counts i; stretches = d.takes i };
      writes = d.writes;
      first = done_is _ _ _ _ _ _ r.ok.0 d;
      fewest = done_fewest _ _ _ _ _ _ r.ok.0 d;
      state = d.state;
      sets = (c.fill.ensures.sets.0 ∙ c.stride-written.ensures.sets.0, c.fill.ensures.sets.1 ∙ c.stride-written.ensures.sets.1);
    }
