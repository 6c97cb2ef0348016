-- What the longer words mean.
use Rattle.std.proofs.Common.{◌≡◌, arith, rules, refl}
use Rattle.std.specs.Prelude.{codes}
use Rattle.std.proofs.lemmas.Slice.Eq.{text_from_reads}
use Rattle.commands.proofs.naming.form_named.Goals as goal

pub returns-in-zombit : goal.returns-in-zombit
returns-in-zombit c = let e : c.args.word.now ≡ codes "zombit" = text_from_reads _ _ (omega arith) (search rules) in rw e refl

pub returns-in-pioneer : goal.returns-in-pioneer
returns-in-pioneer c = let e : c.args.word.now ≡ codes "pioneer" = text_from_reads _ _ (omega arith) (search rules) in rw e refl
