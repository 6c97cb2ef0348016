-- What is left to show of `ListWalking::previous`.
use Rattle.std.proofs.Common.{◌≡◌, sym, ap, ◌∙◌}
use Rattle.sets.specs.declared.Sort.TheVariants.{Others}
use Rattle.sets.specs.Made.{made_length}
use Rattle.sets.specs.Sets.{previous_of, rank_of, select_of}
use Rattle.list.specs.Decoding.{set_of}
use Rattle.list.proofs.Asked.{previous_select, previous_to_last}
use Rattle.list.proofs.asks.ListWalking.previous.Goals as goal

pub returns-in-Members : goal.returns-in-Members
returns-in-Members c =
    let s = set_of c.args.self.now.last c.args.self.now.numbers.now in
    let k = c.args.sort in
    let to : c.rank.result ≡ rank_of s k c.args.i = c.rank.ensures in
    c.select.ensures ∙ ap (select_of s k) to ∙ sym (previous_select s k c.args.i)

pub returns-in-Others : goal.returns-in-Others
returns-in-Others c =
    let u = c.args.self.now.last in
    let s = set_of u c.args.self.now.numbers.now in
    let other : c.previous_other.result ≡ previous_of s Others c.args.i =
    c.previous_other.ensures ∙ ap (previous_of s Others) c.min.ensures ∙ previous_to_last s Others u c.args.i (made_length u _) in
    rw c.in-Others.is other
