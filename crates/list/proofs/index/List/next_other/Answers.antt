-- What is left to show of `List::next_other`.
use Rattle.std.proofs.Common.{◌≡◌, ◌+◌, sym, ap, ◌∙◌, arith}
use Rattle.sets.specs.Packing.{digit_of}
use Rattle.sets.proofs.Packing.{digit_small}
use Rattle.sets.proofs.Tests.{count_le}
use Rattle.list.specs.Decoding.{is_among}
use Rattle.list.proofs.Apart.{next_is, next_far}
use Rattle.list.proofs.Holding.{bay_among}
use Rattle.list.proofs.index.List.next_other.Goals as goal
use Rattle.list.proofs.index.List.next_other.Goals.{else-inside-via-then-inside+else-goes_on, else-inside-via-else-inside}

pub goes_on-requires-clause-small : goal.goes_on-requires-clause-small
goes_on-requires-clause-small c =
    let self = c.args.self.now in
    omega (arith, (bay_among _ _ self.inside _ (sym c.ends-inside.ensures ∙ c.if-inside.true)).1, self.sized.1)

pub overflow_sub-from : goal.overflow_sub-from
overflow_sub-from c = omega (arith, c.members_to-members.ensures.value, count_le (is_among c.args.self.now.numbers.now) c.args.from)

pub overflow_add-from : goal.overflow_add-from
overflow_add-from c =
    let self = c.args.self.now in
    omega (arith, (bay_among _ _ self.inside _ (sym c.ends-inside.ensures ∙ c.if-inside.true)).1, self.sized.1)

pub returns-then-goes_on : goal.returns-then-goes_on
returns-then-goes_on c =
    let self = c.args.self.now in
    let here = sym c.ends-inside.ensures ∙ c.if-inside.true in
    c.nth_other.ensures ∙ next_far self.last _ c.args.from _ c.requires (bay_among _ _ self.inside _ here).1 here c.members_to-members.ensures.value

pub overflow_add-bay : goal.overflow_add-bay
overflow_add-bay c =
    let self = c.args.self.now in
    let one : c.from.result ≡ digit_of c.ends-inside.result = c.from.ensures in
    elim c.else-inside.branch [
      | else-inside-via-then-inside+else-goes_on w ↦
          omega (arith, one, digit_small c.ends-inside.result, (bay_among _ _ self.inside _ (sym c.ends-inside.ensures ∙ w.if-inside.true)).1, self.sized.1)
      | else-inside-via-else-inside w ↦ omega (arith, one, ap digit_of w.if-inside.false)
    ]

pub returns : goal.returns
returns c =
    let self = c.args.self.now in
    let ns = self.numbers.now in
    let from = c.args.from in
    let one : c.from.result ≡ digit_of c.ends-inside.result = c.from.ensures in
    c.then_some.ensures
    ∙ elim c.else-inside.branch [
      | else-inside-via-then-inside+else-goes_on w ↦
          let after : c.from.result ≡ 1 = one ∙ ap digit_of w.if-inside.true in
          next_is self.last ns from (from + c.from.result) c.requires (omega arith)
          (ap (λ n. is_among ns (from + n)) after ∙ sym w.goes_on.ensures ∙ w.if-goes_on.false)
          (λ j l h. let same : j ≡ from = omega (arith, after) in ap (is_among ns) same ∙ sym c.ends-inside.ensures ∙ w.if-inside.true)
      | else-inside-via-else-inside w ↦
          let at : from + c.from.result ≡ from = omega (arith, one, ap digit_of w.if-inside.false) in
          next_is self.last ns from (from + c.from.result) c.requires (omega arith)
          (ap (is_among ns) at ∙ sym c.ends-inside.ensures ∙ w.if-inside.false)
          (λ j l h. absurd (omega (arith, at)))
    ]
