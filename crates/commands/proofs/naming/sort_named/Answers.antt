-- What the longer word means.
use Rattle.std.proofs.Common.{◌≡◌, arith, rules, refl}
use Rattle.std.specs.Prelude.{codes}
use Rattle.std.proofs.lemmas.Slice.Eq.{text_from_reads}
use Rattle.commands.proofs.naming.sort_named.Goals as goal

pub returns-in-member : goal.returns-in-member
returns-in-member c = let e : c.args.word.now ≡ codes "member" = text_from_reads _ _ (omega arith) (search rules) in rw e refl
