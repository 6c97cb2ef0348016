-- What the longer words mean.
use Rattle.std.proofs.Common.{◌≡◌, arith, rules, refl}
use Rattle.std.specs.Prelude.{codes}
use Rattle.std.proofs.lemmas.Slice.Eq.{text_from_reads}
use Rattle.commands.proofs.naming.question_named.Goals as goal

pub returns-in-select : goal.returns-in-select
returns-in-select c = let e : c.args.word.now ≡ codes "select" = text_from_reads _ _ (omega arith) (search rules) in rw e refl

pub returns-in-previous : goal.returns-in-previous
returns-in-previous c = let e : c.args.word.now ≡ codes "previous" = text_from_reads _ _ (omega arith) (search rules) in rw e refl
