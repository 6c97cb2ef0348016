-- What is left to show of `Pioneer::begins`.
use Rattle.std.proofs.Common.{sym, ◌∙◌, arith}
use Rattle.pioneer.proofs.Sides.{pioneer_in}
use Rattle.pioneer.proofs.index.Pioneer.begins.Goals as goal

pub returns-then-i-gt0 : goal.returns-then-i-gt0
returns-then-i-gt0 c one = (omega arith, pioneer_in _ _ _ _ c.args.self.now.lawful c.args.i (omega arith) c.requires (sym c.get.ensures ∙ one))
