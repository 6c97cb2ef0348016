-- What is left to show of `Level::new`.
use Rattle.std.proofs.Common.{rules}
use Rattle.layers.proofs.Levels.{level_by}
use Rattle.layers.proofs.level.Level.new.Goals as goal

pub returns-in-Ok-clause-law : goal.returns-in-Ok-clause-law
returns-in-Ok-clause-law g c = search (rules, level_by)
