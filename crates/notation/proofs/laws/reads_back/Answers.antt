-- What is written is read back.
use Rattle.notation.proofs.ByteTexts.{bytes_of-bytes_text, IsWord-bytes_text}
use Rattle.notation.proofs.NumberTexts.{number_of-decimal, numbers_of-numbers_text, IsWord-decimal, IsWord-numbers_text}
use Rattle.notation.proofs.laws.reads_back.Goals as goal

pub returns-clause-number : goal.returns-clause-number
returns-clause-number c = number_of-decimal

pub returns-clause-number_word : goal.returns-clause-number_word
returns-clause-number_word c = IsWord-decimal

pub returns-clause-numbers : goal.returns-clause-numbers
returns-clause-numbers c = numbers_of-numbers_text

pub returns-clause-numbers_word : goal.returns-clause-numbers_word
returns-clause-numbers_word c = IsWord-numbers_text

pub returns-clause-bytes : goal.returns-clause-bytes
returns-clause-bytes c = bytes_of-bytes_text

pub returns-clause-bytes_word : goal.returns-clause-bytes_word
returns-clause-bytes_word c = IsWord-bytes_text
