-- What is left to show of `look_in_word`.
use Rattle.zombit.proofs.Seeing.{some_one, some_zero}
use Rattle.zombit.proofs.seen.look_in_word.Goals as goal

pub returns-clause-one : goal.returns-clause-one
returns-clause-one c = some_one _ c.args.before c.args.n _ c.requires.few c.row-word.ensures

pub returns-clause-zero : goal.returns-clause-zero
returns-clause-zero c = some_zero _ c.args.before c.args.n _ c.requires.few c.row-word.ensures
