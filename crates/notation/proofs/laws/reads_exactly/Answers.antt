-- Which words are read.
use Rattle.notation.proofs.LeadingZeros.{number_of-zeros, zeros-from_number_of}
use Rattle.notation.proofs.LetterCases.{bytes_of-lower, lower-from_bytes_of}
use Rattle.notation.proofs.NumberWords.{join-from_numbers_of, numbers_of-join}
use Rattle.notation.proofs.laws.reads_exactly.Goals as goal

pub returns-clause-number : goal.returns-clause-number
returns-clause-number c = zeros-from_number_of

pub returns-clause-zeros : goal.returns-clause-zeros
returns-clause-zeros c = number_of-zeros

pub returns-clause-numbers : goal.returns-clause-numbers
returns-clause-numbers c = join-from_numbers_of

pub returns-clause-pieces : goal.returns-clause-pieces
returns-clause-pieces c = numbers_of-join

pub returns-clause-bytes : goal.returns-clause-bytes
returns-clause-bytes c = lower-from_bytes_of

pub returns-clause-cases : goal.returns-clause-cases
returns-clause-cases c = bytes_of-lower
