-- What is left to show of `Ones::after`.
use Rattle.std.proofs.Common.{◌/◌, ◌%◌, arith}
use Rattle.pioneer.proofs.Taking.{left_held}
use Rattle.pioneer.proofs.ones.Ones.after.Goals as goal

pub invariant_of-result : goal.invariant_of-result
invariant_of-result c = record {
  few = c.requires.few;
  passed = (omega arith, omega arith);
  within = c.requires.within;
  held = left_held _ (c.args.place / 64) (c.args.place % 64) _ _ (omega arith) (omega arith) c.row.ensures;
}
