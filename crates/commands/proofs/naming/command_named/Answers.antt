-- What the longer words mean.
use Rattle.std.proofs.Common.{◌≡◌, arith, rules, refl}
use Rattle.std.specs.Prelude.{codes}
use Rattle.std.proofs.lemmas.Slice.Eq.{text_from_reads}
use Rattle.commands.proofs.naming.command_named.Goals as goal

pub returns-in-sheet : goal.returns-in-sheet
returns-in-sheet c = let e : c.args.word.now ≡ codes "sheet" = text_from_reads _ _ (omega arith) (search rules) in rw e refl

pub returns-in-nearest : goal.returns-in-nearest
returns-in-nearest c = let e : c.args.word.now ≡ codes "nearest" = text_from_reads _ _ (omega arith) (search rules) in rw e refl
