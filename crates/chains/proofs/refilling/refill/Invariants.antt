-- The steps that are done stand in the memories, and the last of them is known.
use Rattle.std.proofs.Common.{◌≡◌, take}
use Rattle.chains.specs.Laid.{laid_bytes, laid_numbers, over_at, LastIs, LiesIn}
use Rattle.chains.proofs.refilling.refill.Given as goal

abbrev pub invariant-loop-choice : goal.invariant-loop-choice
invariant-loop-choice g l =
    let s = g.S.Walking.meant l.set in
    let done = take l.choice-index l.choices in
    record {
      last : LastIs l.start done s l.last;
      lies : LiesIn l.last s l.bytes l.numbers;
      bytes : l.bytes ≡ over_at l.start.bytes (laid_bytes done s) l.fn.bytes;
      numbers : l.numbers ≡ over_at l.start.numbers (laid_numbers done s) l.fn.numbers;
    }
