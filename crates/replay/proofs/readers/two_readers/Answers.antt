-- What is left to show of `two_readers`.
use Rattle.std.proofs.Common.{refl, sym, ◌∙◌, subst, arith}
use Rattle.replay.specs.Plays.{run}
use Rattle.replay.specs.Views.{calls_of}
use Rattle.replay.specs.Whole.{Kept}
use Rattle.replay.proofs.Playing.{going_more}
use Rattle.replay.proofs.Standing.{steps_as, all_seen}
use Rattle.replay.proofs.Turning.{kept}
use Rattle.replay.proofs.readers.two_readers.Goals as goal

pub loop-exchange-preserved : goal.loop-exchange-preserved
loop-exchange-preserved g c =
    let l = c.loop-exchange in
    let inv = l.invariant in
    let one = c.turn-first.ensures in
    let two = c.turn-second.ensures in (
      (one.sets.0 ∙ inv.0.0, one.sets.1 ∙ inv.0.1),
      (two.sets.0 ∙ inv.1.0, two.sets.1 ∙ inv.1.1),
      going_more inv.2 _ (omega arith) refl refl (steps_as c.new-round.result l.round _ _ inv.0) one.answer one.writes one.moves one.state,
      going_more inv.3 _ (omega arith) refl refl (steps_as c.new-late_round.result l.late_round _ _ inv.1) two.answer two.writes two.moves two.state,
    )

pub returns : goal.returns
returns g c =
    let l = c.loop-exchange in
    let calls = calls_of c.args.exchanges.now in
    let made = c.new-round.ensures in
    let late_made = c.new-late_round.ensures in
    let plain = all_seen c.new-round.result l.round made.sets made.state (omega arith) l.invariant.2 c.close.ensures in
    let late_plain = all_seen c.new-late_round.result l.late_round late_made.sets late_made.state (omega arith) l.invariant.3 c.close-2.ensures in
    record {
      calls = l.invariant.2.calls;
      plain = plain;
      late_plain = late_plain;
      kept = subst (Kept _ _ calls c.args.memory.now) (sym plain) (kept _ _ calls c.args.memory.now);
      late_kept = subst (Kept _ _ calls c.args.late_memory.now) (sym late_plain) (kept _ _ calls c.args.late_memory.now);
      same = λ free class memory. late_plain ∙ (λ i. run (free i) (class i) calls (memory i)) ∙ sym plain;
    }
