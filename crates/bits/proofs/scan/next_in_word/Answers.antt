-- What is left to show of `next_in_word`.
use Rattle.std.proofs.Common.{◌-◌, ◌%◌, ◌∙◌, arith}
use Rattle.bits.proofs.Held.{up_rest}
use Rattle.bits.proofs.scan.next_in_word.Goals as goal

pub returns : goal.returns
returns c = c.at_most.ensures ∙ up_rest _ c.args.from c.args.last _ ((c.args.from - 1) % 64) c.word.result (omega arith) (omega arith) c.word.ensures
