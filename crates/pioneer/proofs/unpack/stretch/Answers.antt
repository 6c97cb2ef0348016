-- What is left to show of `stretch`.
use Rattle.std.proofs.Common.{arith}
use Rattle.pioneer.proofs.Stretches.{from_held, first_held, all_held}
use Rattle.pioneer.proofs.unpack.stretch.Goals as goal

pub returns-then-n-lt64 : goal.returns-then-n-lt64
returns-then-n-lt64 c =
    first_held _ c.args.base _ (from_held c.args.base c.args.first c.requires.low c.requires.high) _ c.args.behind (omega (arith, c.saturating_sub-n.ensures)) c.if-n-lt64.true

pub returns-else-n-lt64 : goal.returns-else-n-lt64
returns-else-n-lt64 c =
    all_held _ c.args.base _ (from_held c.args.base c.args.first c.requires.low c.requires.high) c.args.behind (omega (arith, c.saturating_sub-n.ensures, c.if-n-lt64.false))
