-- The words of lines that are made of others.
use Rattle.notation.proofs.Wording.{IsWord-words_of, words_of-cut, words_of-nil, words_of-spaced, words_of-word}
use Rattle.notation.proofs.laws.words_hold.Goals as goal

pub returns-clause-empty : goal.returns-clause-empty
returns-clause-empty c = words_of-nil

pub returns-clause-one : goal.returns-clause-one
returns-clause-one c = words_of-word

pub returns-clause-cut : goal.returns-clause-cut
returns-clause-cut c = λ front rest blank h. words_of-cut front blank rest h

pub returns-clause-words : goal.returns-clause-words
returns-clause-words c = IsWord-words_of

pub returns-clause-spaced : goal.returns-clause-spaced
returns-clause-spaced c = words_of-spaced
