-- What is left to show of `pass_blocks`.
use Rattle.std.proofs.Common.{◌+◌, ◌-◌, suc, min, ◌≤◌, length, refl, subst, arith}
use borrow.Rule.Slice.PartMut.{mid_of, put_mid}
use Rattle.round.specs.Rounds.{free_of, class_of}
use Rattle.strides.specs.Passage.{Passage}
use Rattle.round.specs.Strides.{block_of, Paced}
use Rattle.round.proofs.Bay.{ends_top}
use Rattle.round.proofs.Striding.{paced_start, paced_on}
use Rattle.round.proofs.state.Round.pass_blocks.Goals as goal
use Rattle.round.proofs.state.Round.pass_blocks.Goals.{After-pass_block-passed}

pub loop-pace-init : goal.loop-pace-init
loop-pace-init g c = paced_start _ _ _ _ (omega (arith, c.args.self.now.ok.1))

-- the pace behind the block
on : (g : _) (c : After-pass_block-passed g)
    → (let r = c.args.self.now in
    let pace = c.loop-pace.pace in
    let block = c.pass_block-passed in
    Paced (free_of r) (class_of r) r.state.place c.args.out.now (pace.bay + block.result.bits) (pace.written + block.result.written) (pace.stretches + block.result.starts)
    block.result.stance (put_mid pace.written (length c.loop-pace.out - pace.written) c.loop-pace.out block.new.out))
on g c =
    let r = c.args.self.now in
    let pace = c.loop-pace.pace in
    let inv = c.loop-pace.invariant in
    paced_on (free_of r) (class_of r) r.state.place c.args.out.now pace.bay pace.written pace.stretches pace.stance c.loop-pace.out c.pass_block-passed.result
    c.pass_block-passed.new.out (length c.loop-pace.out - pace.written) (omega (arith, r.ok.0, inv.low)) (omega (arith, c.requires.last, c.loop-pace-test.true)) inv refl
    (subst (λ w. Passage (block_of (free_of r) pace.bay) (block_of (class_of r) pace.bay) pace.stance pace.bay (min (suc w - pace.bay) 8192) (mid_of pace.written (length c.loop-pace.out - pace.written) c.loop-pace.out) c.pass_block-passed.result c.pass_block-passed.new.out)
    c.requires.last c.pass_block-passed.ensures.passage)

-- none of its numbers is beyond the end
bounds : (g : _) (c : After-pass_block-passed g)
    → (c.loop-pace.pace.written + c.pass_block-passed.result.written ≤ c.args.w) × (c.loop-pace.pace.stretches + c.pass_block-passed.result.starts ≤ c.args.w)
bounds g c =
    let r = c.args.self.now in
    let pace = on g c in
    let top = ends_top (free_of r) (class_of r) c.pass_block-passed.result.stance (c.loop-pace.pace.bay + c.pass_block-passed.result.bits) in
    (omega (arith, pace.few, pace.far, top, r.ok.0, c.requires.last), omega (arith, pace.far, top, r.ok.0, c.requires.last))

pub overflow_add-pace-in-loop-pace : goal.overflow_add-pace-in-loop-pace
overflow_add-pace-in-loop-pace g c = omega (arith, (bounds g (goal.at.overflow_add-pace-in-loop-pace g c).After-pass_block-passed).0)

pub overflow_add-pace-in-loop-pace-2 : goal.overflow_add-pace-in-loop-pace-2
overflow_add-pace-in-loop-pace-2 g c = omega (arith, (bounds g (goal.at.overflow_add-pace-in-loop-pace-2 g c).After-pass_block-passed).1)

pub loop-pace-preserved : goal.loop-pace-preserved
loop-pace-preserved g c = on g (goal.at.loop-pace-preserved g c).After-pass_block-passed
