-- What is left to show of `write_sums`.
use Rattle.std.proofs.Common.{◌≡◌, ◌+◌, ◌*◌, sym, ◌∙◌, subst, arith}
use Rattle.bits.specs.Bits.{bit_at}
use Rattle.sets.specs.Search.{count_to}
use Rattle.sets.proofs.Tests.{count_none}
use Rattle.pioneer.specs.Filling.{count_of}
use Rattle.pioneer.specs.Written.{SumsTo}
use Rattle.pioneer.proofs.Writing.{tells_count, sums_none, sums_all, none_long}
use Rattle.pioneer.proofs.write.write_sums.Goals as goal

pub loop-w-init : goal.loop-w-init
loop-w-init c = record {
  long = none_long c.args.count c.args.sums.now c.clear.new.bytes c.requires.room c.clear.ensures;
  counted = sym (count_none (bit_at c.args.row.now));
  written = λ s tells. sums_none s c.args.sums.now c.args.count c.clear.new.bytes (c.requires.all ∙ tells_count s c.args.row.now tells) c.clear.ensures;
}

pub put_ends-before-requires-clause-room : goal.put_ends-before-requires-clause-room
put_ends-before-requires-clause-room c = omega (arith, c.requires.all, c.requires.room, c.loop-w.invariant.long)

pub loop-w-preserved : goal.loop-w-preserved
loop-w-preserved c =
    let inv = c.loop-w.invariant in
    let on : 64 * c.loop-w.w + 64 ≡ 64 * (c.loop-w.w + 1) = omega arith in
    record {
      long = c.put_ends-before.ensures.long ∙ inv.long;
      counted = subst (λ i. c.put_ends-before.result ≡ count_to (bit_at c.args.row.now) i) on c.put_ends-before.ensures.count;
      written = λ s tells.
          let all : c.args.count ≡ count_of s = c.requires.all ∙ tells_count s c.args.row.now tells in
          subst (λ i. SumsTo s c.args.sums.now i c.put_ends-before.new.sums) on (c.put_ends-before.ensures.sums s c.args.sums.now tells (omega (arith, all, c.requires.room)) (inv.written s tells));
    }

pub returns : goal.returns
returns c s tells =
    sums_all s c.args.sums.now (64 * c.loop-w.w) c.loop-w.sums (omega (arith, tells.0, c.loop-w-test.false, c.div_ceil-w-end.ensures)) (c.loop-w.invariant.written s tells)
