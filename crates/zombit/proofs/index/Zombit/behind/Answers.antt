-- What is left to show of `Zombit::behind`.
use Rattle.std.proofs.Common.{◌+◌, refl, arith}
use Rattle.zombit.specs.Meant.{U, O}
use Rattle.zombit.proofs.Indexed.{small_mixed}
use Rattle.zombit.proofs.Onward.{ones_first, mixed_first, bits_room, members_more, members_few, passed_more}
use Rattle.zombit.proofs.index.Zombit.behind.Goals as goal

pub overflow_add-bits : goal.overflow_add-bits
overflow_add-bits c =
    let z = c.args.self.now in
    let q = c.requires in
    let m = mixed_first (U z) c.args.passed.block c.args.n _ q.few c.row.ensures in
    omega (arith, bits_room z c.args.passed.block c.args.n _ c.args.passed.bits q.within m q.is.bits, small_mixed z)

pub ones_after-ones-requires-clause-within : goal.ones_after-ones-requires-clause-within
ones_after-ones-requires-clause-within c =
    let z = c.args.self.now in
    let q = c.requires in
    bits_room z c.args.passed.block c.args.n _ c.args.passed.bits q.within (mixed_first (U z) c.args.passed.block c.args.n _ q.few c.row.ensures) q.is.bits

pub overflow_add-result-2 : goal.overflow_add-result-2
overflow_add-result-2 c =
    let z = c.args.self.now in
    let k = c.args.passed.block in
    let n = c.args.n in
    let q = c.requires in
    let m = mixed_first (U z) k n _ q.few c.row.ensures in
    let o = ones_first (O z) k n _ q.few c.row-2.ensures in
    omega (
      arith,
      members_few z k n _ c.args.passed.bits q.within m q.is.bits _ c.args.passed.members _ o q.is.members c.ones_after-ones.ensures,
      bits_room z k n _ c.args.passed.bits q.within m q.is.bits,
      small_mixed z,
      z.blocks.sized.1,
      z.blocks.blocked.1,
    )

pub overflow_add-result-3 : goal.overflow_add-result-3
overflow_add-result-3 c =
    let z = c.args.self.now in
    let k = c.args.passed.block in
    let n = c.args.n in
    let q = c.requires in
    let m = mixed_first (U z) k n _ q.few c.row.ensures in
    let o = ones_first (O z) k n _ q.few c.row-2.ensures in
    omega (
      arith,
      members_few z k n _ c.args.passed.bits q.within m q.is.bits _ c.args.passed.members _ o q.is.members c.ones_after-ones.ensures,
      bits_room z k n _ c.args.passed.bits q.within m q.is.bits,
      small_mixed z,
      z.blocks.sized.1,
      z.blocks.blocked.1,
    )

pub overflow_sub-result : goal.overflow_sub-result
overflow_sub-result c =
    let z = c.args.self.now in
    let k = c.args.passed.block in
    let n = c.args.n in
    let q = c.requires in
    let m = mixed_first (U z) k n _ q.few c.row.ensures in
    let o = ones_first (O z) k n _ q.few c.row-2.ensures in
    omega (arith, members_more z k n _ c.args.passed.bits q.within m q.is.bits _ c.args.passed.members _ o q.is.members c.ones_after-ones.ensures)

pub returns-clause-is : goal.returns-clause-is
returns-clause-is c =
    let z = c.args.self.now in
    let k = c.args.passed.block in
    let n = c.args.n in
    let q = c.requires in
    let m = mixed_first (U z) k n _ q.few c.row.ensures in
    let o = ones_first (O z) k n _ q.few c.row-2.ensures in
    passed_more z k n _ c.args.passed.bits q.within m q.is.bits _ c.args.passed.members _ o q.is.members c.ones_after-ones.ensures (k + n) refl
