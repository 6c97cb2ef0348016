-- What is left to show of `laws_hold`.
use Rattle.sets.proofs.Lawful.{sorts_part, next_smallest, previous_largest, select_ranks}
use Rattle.sets.proofs.Only.{laws_decide}
use Rattle.sets.proofs.Ranks.{rank_counts}
use Rattle.sets.proofs.Same.{sets_by_members}
use Rattle.sets.proofs.laws_hold.Goals as goal

pub returns : goal.returns
returns c = record { sorts = sorts_part; next = next_smallest; previous = previous_largest; rank = rank_counts; select = select_ranks; decide = laws_decide; members = sets_by_members }
