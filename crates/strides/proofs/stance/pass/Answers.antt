-- What is left to show of `pass`.
use Rattle.std.proofs.Common.{ℕ, ◌*◌, ◌%◌, ◌^◌, bit_or, sym, subst, arith}
use lib.Bits.{bit_and}
use Rattle.bits.specs.Words.{Holds}
use Rattle.strides.specs.Strides.{row_of, begins, after}
use Rattle.strides.proofs.Passing.{starts_held, fresh_behind}
use Rattle.strides.proofs.stance.pass.Goals as goal

pub returns-clause-starts : goal.returns-clause-starts
returns-clause-starts c =
    let class = c.carried-after_class in
    let free = c.carried-after_free in
    let common = bit_and c.args.free c.args.class in
    subst (λ (fresh : ℕ). Holds (begins (row_of c.args.free) (row_of c.args.class) c.args.stance) 0 64
    (bit_or (bit_or (bit_or (bit_or (common * 2 % 2 ^ 64) fresh) common) (bit_and c.args.free class.result.0)) (bit_and c.args.class free.result.0)))
    (sym c.from.ensures)
    (starts_held c.args.stance c.args.free c.args.class c.ranges.free.fits class.result.0 free.result.0 (omega arith) (omega arith) class.ensures.bits free.ensures.bits
    c.ranges.class.fits)

pub returns-clause-stance : goal.returns-clause-stance
unfolding after
returns-clause-stance c =
    λ i. record {
      fresh = fresh_behind c.args.stance c.args.free c.args.class c.ranges.free.fits i;
      in_free = c.carried-after_free.ensures.past i;
      in_class = c.carried-after_class.ensures.past i;
    }
