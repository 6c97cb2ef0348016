-- The number that answers a question: 1 for yes and 0 for no, and 0 where there is no such bay.
use Rattle.std.specs.Prelude.{ℕ, Bool, cond, List, Some, None, Option}
use Rattle.sets.specs.Sets.{is_member, next_of, previous_of, rank_of, select_of}
use Rattle.sets.specs.declared.Sort.{Sort}
use Rattle.batches.specs.declared.question.Question.{Question}
use Rattle.batches.specs.declared.question.Question.TheVariants.{Holds, Next, Previous, Rank, Select}

abbrev pub or_none : Option ℕ → ℕ
or_none None = 0
or_none (Some i) = i

abbrev pub answer_of : List Bool → Question → Sort → ℕ → ℕ
answer_of s Holds k i = cond (is_member s i) 1 0
answer_of s Next k i = or_none (next_of s k i)
answer_of s Previous k i = or_none (previous_of s k i)
answer_of s Rank k i = rank_of s k i
answer_of s Select k i = or_none (select_of s k i)
