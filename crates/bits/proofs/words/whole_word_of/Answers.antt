-- What is left to show of `whole_word_of`.
use Rattle.bits.specs.Bits.{bit_at}
use Rattle.bits.proofs.words.whole_word_of.Goals as goal

pub returns : goal.returns
returns c = c.of_sort.ensures (bit_at c.args.bytes.now) _ c.whole_word.ensures
