-- What is left to show of `write_parts`.
use Rattle.std.proofs.Common.{length, sym, ◌∙◌, arith, rules}
use Rattle.std.proofs.lemmas.List.{places}
use Rattle.sets.proofs.Packing.{pack_length}
use Rattle.pioneer.specs.Filling.{count_of, begins, ends}
use Rattle.pioneer.proofs.Writing.{tells_packed, tells_count}
use Rattle.pioneer.proofs.write.write_parts.Goals as goal

pub write_starts-requires-clause-room : goal.write_starts-requires-clause-room
write_starts-requires-clause-room g c =
    let s = g.S.Walking.meant c.args.set.now in
    let tells = tells_packed s c.bits.new.out _ (search (rules, places)) c.bits.ensures in
    omega (arith, tells.0, c.requires.room_starts, pack_length (length s) (begins s))

pub write_sums-requires-clause-all : goal.write_sums-requires-clause-all
write_sums-requires-clause-all g c =
    let s = g.S.Walking.meant c.args.set.now in
    let tells = tells_packed s c.bits.new.out _ (search (rules, places)) c.bits.ensures in
    c.requires.all ∙ sym (tells_count s c.bits.new.out tells)

pub write_sums-requires-clause-room : goal.write_sums-requires-clause-room
write_sums-requires-clause-room g c =
    let s = g.S.Walking.meant c.args.set.now in
    omega (arith, c.requires.all, c.requires.room_sums, pack_length (count_of s) (ends s))

pub returns-clause-starts : goal.returns-clause-starts
returns-clause-starts g c =
    let s = g.S.Walking.meant c.args.set.now in
    c.write_starts.ensures s (tells_packed s c.bits.new.out _ (search (rules, places)) c.bits.ensures)

pub returns-clause-sums : goal.returns-clause-sums
returns-clause-sums g c =
    let s = g.S.Walking.meant c.args.set.now in
    c.write_sums.ensures s (tells_packed s c.bits.new.out _ (search (rules, places)) c.bits.ensures)
