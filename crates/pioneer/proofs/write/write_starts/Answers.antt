-- What is left to show of `write_starts`.
use Rattle.std.proofs.Common.{◌≡◌, ◌*◌, ◌+◌, length, ap, ◌∙◌, arith, rules}
use Rattle.std.proofs.lemmas.List.{places}
use Rattle.sets.specs.Packing.{digit_of}
use Rattle.sets.specs.Sets.{is_member}
use Rattle.pioneer.specs.Filling.{begins}
use Rattle.pioneer.proofs.Stretches.{last_digit}
use Rattle.pioneer.proofs.Writing.{tells_held, begins_held, none_before, over_starts}
use Rattle.pioneer.proofs.write.write_starts.Goals as goal

pub loop-w-init : goal.loop-w-init
loop-w-init c = record {
  long = search (rules, places);
  carry = λ s tells. none_before s;
  front = λ s tells j l within. absurd (omega arith);
}

pub loop-w-preserved : goal.loop-w-preserved
loop-w-preserved c =
    let w = c.loop-w.w in
    let inv = c.loop-w.invariant in record {
      long = c.put_word.ensures.long ∙ inv.long;
      carry = λ s tells.
          let on : 64 * w + 64 ≡ 64 * (w + 1) = omega arith in
          last_digit (is_member s) (64 * w) c.row-members.result (tells_held s c.args.row.now tells (64 * w) _ c.row-members.ensures) ∙ ap (λ i. digit_of (is_member s i)) on;
      front = λ s tells j l within.
          c.put_word.ensures.front (begins s) (begins_held s w c.row-members.result c.loop-w.carry (tells_held s c.args.row.now tells (64 * w) _ c.row-members.ensures) (inv.carry s tells)) (inv.front s tells) j (omega arith) within;
    }

pub returns : goal.returns
returns c s tells =
    let inv = c.loop-w.invariant in
    over_starts s (length c.args.row.now) (8 * c.loop-w.w) c.loop-w.front c.args.starts.now tells.0 inv.long (omega (arith, c.loop-w-test.false, c.div_ceil-w-end.ensures)) (inv.front s tells)
