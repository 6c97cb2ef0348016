-- What is left to show of `ListTold::of`.
use Rattle.std.proofs.Common.{◌≡◌, length, ap, ◌∙◌}
use Rattle.sets.specs.Search.{count_to}
use Rattle.sets.specs.Sets.{is_member}
use Rattle.sets.proofs.Tests.{count_agree}
use Rattle.bits.specs.Bits.{bit_at}
use Rattle.list.specs.Filling.{numbers_of}
use Rattle.list.proofs.Listed.{numbers_count}
use Rattle.list.proofs.told.ListTold.of.Goals as goal

pub returns : goal.returns
returns g c =
    let s = g.S.Walking.meant c.args.set.now in
    let all : c.ones.result ≡ length (numbers_of s) =
    c.ones.ensures.value ∙ count_agree (bit_at c.row_of.result) (is_member s) c.last-last.result (λ j one l. c.row_of.ensures j one)
    ∙ ap (count_to (is_member s)) c.last-last.ensures ∙ numbers_count s in
    λ i. record { last = c.last-last.ensures i; numbers = all i }
