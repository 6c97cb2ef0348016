-- What a question about a set is answered.
use Rattle.std.specs.Prelude.{Bool, List, length}
use Rattle.commands.specs.declared.command.Question.{Question}
use Rattle.commands.specs.declared.command.Question.TheVariants as questions
use Rattle.replies.specs.declared.reply.Reply.{Reply}
use Rattle.replies.specs.declared.reply.Reply.TheVariants as replies
use Rattle.sets.specs.Sets.{is_member, next_of, previous_of, rank_of, select_of}

abbrev pub asked : List Bool → Question → Reply
asked s questions.Last = replies.Number (length s)
asked s (questions.Holds i) = replies.Holds (is_member s i)
asked s (questions.Next x i) = replies.Bay (next_of s x i)
asked s (questions.Previous x i) = replies.Bay (previous_of s x i)
asked s (questions.Rank x i) = replies.Number (rank_of s x i)
asked s (questions.Select x k) = replies.Bay (select_of s x k)
