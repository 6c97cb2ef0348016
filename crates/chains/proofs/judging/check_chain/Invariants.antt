-- The steps that are left give the answer and what they leave.
use Rattle.std.proofs.Common.{◌≡◌, suc, ◌-◌, drop, length, Ok}
use Rattle.chains.specs.Judging.{numbered, sizing, rooming}
use Rattle.chains.specs.Laid.{laid_bytes, laid_numbers}
use Rattle.chains.proofs.judging.check_chain.Given as goal

abbrev pub invariant-loop-before : goal.invariant-loop-before
invariant-loop-before g l =
    let s = g.S.Walking.meant l.set in
    let rest = drop l.before l.choices in
    record {
      sized : sizing (numbered l.side s (suc l.before) rest) ≡ Ok tt;
      answer : rooming (numbered l.side s 1 l.choices) l.fn.room.bytes l.fn.room.numbers ≡ rooming (numbered l.side s (suc l.before) rest) l.left.bytes l.left.numbers;
      bytes : l.fn.room.bytes - length (laid_bytes l.choices s) ≡ l.left.bytes - length (laid_bytes rest s);
      numbers : l.fn.room.numbers - length (laid_numbers l.choices s) ≡ l.left.numbers - length (laid_numbers rest s);
    }
