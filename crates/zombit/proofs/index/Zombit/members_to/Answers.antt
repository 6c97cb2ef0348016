-- What is left to show of `Zombit::members_to`.
use Rattle.std.proofs.Common.{sym, ap, ◌∙◌, arith}
use Rattle.sets.specs.Search.{count_to}
use Rattle.sets.proofs.Tests.{count_none}
use Rattle.zombit.specs.Meant.{bays}
use Rattle.zombit.proofs.Counted.{members_all, members_bare, members_mixed}
use Rattle.zombit.proofs.Indexed.{before_within, bits_within}
use Rattle.zombit.proofs.index.Zombit.members_to.Goals as goal

pub returns-then-i-eq0 : goal.returns-then-i-eq0
returns-then-i-eq0 c = let z = c.args.self.now in sym (ap (count_to (bays z)) c.if-i-eq0.true ∙ count_none (bays z))

pub ones-requires : goal.ones-requires
ones-requires c =
    let within = before_within c.args.self.now c.spot-block.result.block (omega (arith, c.spot-block.ensures.block)) in
    omega (arith, within, c.before-full.ensures.bits)

pub ones-requires-in-Bare : goal.ones-requires-in-Bare
ones-requires-in-Bare c =
    let within = before_within c.args.self.now c.spot-block.result.block (omega (arith, c.spot-block.ensures.block)) in
    omega (arith, within, c.before-full.ensures.bits)

pub ones-requires-in-Mixed : goal.ones-requires-in-Mixed
ones-requires-in-Mixed c =
    let within = bits_within c.args.self.now _ c.spot-block.ensures.block c.in-Mixed.ensures in
    omega (arith, within, c.before-full.ensures.bits, c.spot-block.ensures.end)

pub returns-in-All : goal.returns-in-All
returns-in-All c =
    let z = c.args.self.now in
    let spot = c.spot-block.ensures in
    let before = c.before-full.ensures in
    let members = members_all z _ _ _ _ spot.block spot.end before.bits before.full c.in-All.ensures in
    omega (arith, c.ones.ensures.value, members, ap (count_to (bays z)) spot.bay)

pub returns-in-Bare : goal.returns-in-Bare
returns-in-Bare c =
    let z = c.args.self.now in
    let spot = c.spot-block.ensures in
    let before = c.before-full.ensures in
    let members = members_bare z _ _ _ _ spot.block spot.end before.bits before.full c.in-Bare.ensures in
    omega (arith, c.ones-in-Bare.ensures.value, members, ap (count_to (bays z)) spot.bay)

pub returns-in-Mixed : goal.returns-in-Mixed
returns-in-Mixed c =
    let z = c.args.self.now in
    let spot = c.spot-block.ensures in
    let before = c.before-full.ensures in
    let members = members_mixed z _ _ _ _ spot.block spot.end before.bits before.full c.in-Mixed.ensures in
    omega (arith, c.ones-in-Mixed.ensures.value, members, ap (count_to (bays z)) spot.bay)
