-- What is left to show of `ListWalking::next`.
use Rattle.std.proofs.Common.{◌≡◌, ℕ, ◌+◌, ◌-◌, sym, ap, ◌∙◌, arith}
use Rattle.sets.specs.declared.Sort.TheVariants.{Others}
use Rattle.sets.specs.Sets.{next_of, rank_of, select_of}
use Rattle.list.specs.Decoding.{set_of}
use Rattle.list.proofs.Asked.{rank_le, next_select, next_from_one}
use Rattle.list.proofs.asks.ListWalking.next.Goals as goal

pub overflow_add-rank : goal.overflow_add-rank
overflow_add-rank c =
    let s = set_of c.args.self.now.last c.args.self.now.numbers.now in
    omega (arith, c.rank.ensures, rank_le s c.args.sort c.saturating_sub.result, c.saturating_sub.ensures)

pub returns-in-Members : goal.returns-in-Members
returns-in-Members c =
    let s = set_of c.args.self.now.last c.args.self.now.numbers.now in
    let k = c.args.sort in
    let before : c.rank.result ≡ rank_of s k (c.args.i - 1) = c.rank.ensures ∙ ap (rank_of s k) c.saturating_sub.ensures in
    c.select.ensures ∙ ap (λ (n : ℕ). select_of s k (n + 1)) before ∙ sym (next_select s k c.args.i)

pub returns-in-Others : goal.returns-in-Others
returns-in-Others c =
    let s = set_of c.args.self.now.last c.args.self.now.numbers.now in
    let other : c.next_other.result ≡ next_of s Others c.args.i =
    c.next_other.ensures ∙ ap (next_of s Others) c.max.ensures ∙ next_from_one s Others c.args.i in
    rw c.in-Others.is other
