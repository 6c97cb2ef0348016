-- What is left to show of `write_counts`.
use Rattle.std.proofs.Common.{arith}
use Rattle.std.proofs.lemmas.Grind.{common_steps}
use Rattle.std.proofs.lemmas.Slice.Zip.{length-zip, get_or-zip}
use Rattle.batches.proofs.counting.write_counts.Goals as goal

pub loop-k-preserved : goal.loop-k-preserved
loop-k-preserved g c =
    let long = length-zip c.args.firsts.now c.args.lasts.now in
    let range = get_or-zip c.args.firsts.now c.args.lasts.now c.loop-k.k (0, 0) (omega arith) (omega arith) in
    grind (arith, common_steps)

pub returns : goal.returns
returns g c = let long = length-zip c.args.firsts.now c.args.lasts.now in grind (arith, common_steps)
