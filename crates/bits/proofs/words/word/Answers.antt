-- What is left to show of `word`.
use Rattle.bits.specs.Bits.{bit_at}
use Rattle.bits.proofs.words.word.Goals as goal

pub returns-else-bytes-j-ge8 : goal.returns-else-bytes-j-ge8
returns-else-bytes-j-ge8 c = c.of_sort.ensures (bit_at c.args.bytes.now) _ c.last_word.ensures
