-- What is left to show of `Pioneer::members`.
use Rattle.std.proofs.Common.{sym, arith}
use Rattle.sets.proofs.Tests.{count_le}
use Rattle.pioneer.specs.Found.{member_of}
use Rattle.pioneer.proofs.Asked.{rank_none}
use Rattle.pioneer.proofs.Finding.{begun_low, members_by}
use Rattle.pioneer.proofs.index.Pioneer.members.Goals as goal

pub overflow_sub-i : goal.overflow_sub-i
overflow_sub-i c = let begun = c.in-Some.ensures in (begun_low c.args.self.now c.args.i c.in-Some.run' c.requires begun.0 begun.1).0

pub returns-in-Some : goal.returns-in-Some
returns-in-Some c =
    let p = c.args.self.now in
    let value = members_by p c.args.i _ c.in-Some.run' c.requires c.in-Some.ensures c.min.ensures in
    record { value = value; bound = omega (arith, value, count_le (member_of p) c.args.i) }

pub returns-in-None : goal.returns-in-None
returns-in-None c = record { value = sym (rank_none _ _ _ _ c.args.self.now.lawful _ c.requires c.in-None.ensures); bound = omega arith }
