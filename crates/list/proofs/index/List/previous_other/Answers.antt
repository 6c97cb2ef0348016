-- What is left to show of `List::previous_other`.
use Rattle.std.proofs.Common.{◌≡◌, ◌-◌, sym, ap, ◌∙◌, arith}
use Rattle.sets.specs.Packing.{digit_of}
use Rattle.sets.proofs.Tests.{count_le}
use Rattle.list.specs.Decoding.{is_among}
use Rattle.list.proofs.Apart.{previous_is, previous_far}
use Rattle.list.proofs.Ends.{last_is, cut_before}
use Rattle.list.proofs.Holding.{bay_among}
use Rattle.list.proofs.index.List.previous_other.Goals as goal
use Rattle.list.proofs.index.List.previous_other.Goals.{else-inside-via-then-inside+else-ends, else-inside-via-else-inside}

pub overflow_sub-members : goal.overflow_sub-members
overflow_sub-members c =
    let self = c.args.self.now in
    (last_is _ self.climbs _ _ c.members_to-members.ensures.cut (sym c.ends-inside.ensures ∙ c.if-inside.true)).0

pub overflow_sub-to : goal.overflow_sub-to
overflow_sub-to c =
    let self = c.args.self.now in
    (bay_among _ _ self.inside _ (sym c.ends-inside.ensures ∙ c.if-inside.true)).0

pub ends-requires : goal.ends-requires
ends-requires c =
    let self = c.args.self.now in
    let here = sym c.ends-inside.ensures ∙ c.if-inside.true in
    cut_before _ self.climbs _ _ c.members_to-members.ensures.cut (bay_among _ _ self.inside _ here).0 here

pub overflow_sub-to-then-ends : goal.overflow_sub-to-then-ends
overflow_sub-to-then-ends c = omega (arith, c.members_to-members.ensures.value, count_le (is_among c.args.self.now.numbers.now) c.args.to)

pub returns-then-ends : goal.returns-then-ends
returns-then-ends c = c.nth_other.ensures ∙ previous_far c.args.self.now.last _ c.args.to _ c.requires c.members_to-members.ensures.value

pub returns : goal.returns
returns c =
    let self = c.args.self.now in
    let ns = self.numbers.now in
    let to = c.args.to in
    let one : c.from.result ≡ digit_of c.ends-inside.result = c.from.ensures in
    c.then_some.ensures
    ∙ elim c.else-inside.branch [
      | else-inside-via-then-inside+else-ends w ↦
          let before : c.from.result ≡ 1 = one ∙ ap digit_of w.if-inside.true in
          previous_is self.last ns to (to - c.from.result) c.requires (omega arith)
          (ap (λ n. is_among ns (to - n)) before ∙ sym w.ends.ensures ∙ w.if-ends.false)
          (λ j l h. let same : j ≡ to = omega (arith, before) in ap (is_among ns) same ∙ sym c.ends-inside.ensures ∙ w.if-inside.true)
      | else-inside-via-else-inside w ↦
          let at : to - c.from.result ≡ to = omega (arith, one, ap digit_of w.if-inside.false) in
          previous_is self.last ns to (to - c.from.result) c.requires (omega arith)
          (ap (is_among ns) at ∙ sym c.ends-inside.ensures ∙ w.if-inside.false)
          (λ j l h. absurd (omega (arith, at)))
    ]
