-- What is left to show of `count_members`.
use Rattle.std.proofs.Common.{ap, ◌∙◌, rules}
use Rattle.std.proofs.lemmas.List.{places}
use Rattle.sets.specs.declared.Sort.TheVariants.{Members}
use Rattle.sets.specs.Sets.{rank_of}
use Rattle.pioneer.proofs.Writing.{tells_packed, tells_rank}
use Rattle.pioneer.proofs.measuring.count_members.Goals as goal

pub returns : goal.returns
returns g c =
    let s = g.S.Walking.meant c.args.set.now in
    let tells = tells_packed s c.bits.new.out _ (search (rules, places)) c.bits.ensures in
    c.ones.ensures.value ∙ tells_rank s c.bits.new.out tells c.last-last.result ∙ ap (rank_of s Members) c.last-last.ensures
