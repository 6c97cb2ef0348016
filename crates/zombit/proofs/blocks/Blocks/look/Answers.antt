-- What is left to show of `Blocks::look`.
use Rattle.std.proofs.Common.{◌∙◌}
use Rattle.zombit.proofs.Looked.{row_member, row_other}
use Rattle.zombit.proofs.blocks.Blocks.look.Goals as goal

pub returns-clause-one : goal.returns-clause-one
returns-clause-one c = c.look.ensures.one ∙ row_member c.args.self.last c.args.self.size c.args.row.now c.requires.row c.args.k _ c.place.ensures

pub returns-clause-zero : goal.returns-clause-zero
returns-clause-zero c = c.look.ensures.zero ∙ row_other c.args.self.last c.args.self.size c.args.row.now c.requires.row c.args.k _ c.place.ensures
