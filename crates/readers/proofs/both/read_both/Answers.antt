-- What is left to show of `read_both`.
use Rattle.chains.proofs.Chained.{chained}
use Rattle.readers.proofs.both.read_both.Goals as goal

pub returns : goal.returns
returns g c =
    let e = c.two_readers.ensures in
    let free = g.met.F.Walking.sized c.args.free in
    let class = g.met.C.Walking.sized c.args.class in
    record {
      asked = e.calls;
      plain = e.plain;
      late_plain = e.late_plain;
      kept = e.kept;
      late_kept = e.late_kept;
      same = λ xs ys kept_f kept_c chain_f chain_c memory. e.same (chained xs _ _ free kept_f chain_f) (chained ys _ _ class kept_c chain_c) memory;
    }
