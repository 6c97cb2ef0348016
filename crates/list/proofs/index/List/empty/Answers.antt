-- What is left to show of `List::empty`.
use Rattle.std.proofs.Common.{refl}
use Rattle.sets.specs.Made.{set_by}
use Rattle.list.specs.Decoding.{is_among}
use Rattle.list.proofs.index.List.empty.Goals as goal

pub returns-clause-means : goal.returns-clause-means
unfolding set_by is_among
returns-clause-means c = refl
