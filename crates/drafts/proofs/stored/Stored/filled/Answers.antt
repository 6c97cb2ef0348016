-- What is left to show of `filled`.
use Rattle.std.proofs.Common.{◌∙◌}
use Rattle.forms.specs.Verdicts.{verdict_of}
use Rattle.drafts.proofs.Answered.{is_ok}
use Rattle.drafts.proofs.Whole.{asked, handed_back, all_fit, whole}
use Rattle.drafts.proofs.stored.Stored.filled.Goals as goal

pub unwrap-requires : goal.unwrap-requires
unwrap-requires g c =
    let s = g.S.Walking.meant c.args.set.now in
    let told = c.in-Ok.ensures in
    let bytes = c.deref_mut.result.now in
    let numbers = c.deref_mut-2.result.now in
    let long = asked c.in_ok-bytes.bytes bytes _ c.deref_mut.ensures.len (c.in_ok-bytes.ensures.len ∙ c.bytes.ensures) in
    let numbers_long = c.deref_mut-2.ensures.len ∙ c.in_ok-numbers.ensures.len ∙ c.numbers.ensures in
    is_ok c.fill.result (c.fill.ensures.answer ∙ all_fit c.args.choice s told.law.0 c.in-Ok.told told.told bytes numbers long numbers_long)

pub invariant_of-result : goal.invariant_of-result
invariant_of-result g c =
    let s = g.S.Walking.meant c.args.set.now in
    let told = c.in-Ok.ensures in
    let bytes = c.deref_mut.result.now in
    let numbers = c.deref_mut-2.result.now in
    let long = asked c.in_ok-bytes.bytes bytes _ c.deref_mut.ensures.len (c.in_ok-bytes.ensures.len ∙ c.bytes.ensures) in
    let numbers_long = c.deref_mut-2.ensures.len ∙ c.in_ok-numbers.ensures.len ∙ c.numbers.ensures in
    let back = handed_back c.in_ok-bytes.bytes bytes c.fill.new.bytes c.deref_mut.ensures.value c.fill.auto.bytes in
    let numbers_back = handed_back c.in_ok-numbers.numbers numbers c.fill.new.numbers c.deref_mut-2.ensures.value c.fill.auto.numbers in
    let all =
    whole c.args.choice s told.law.0 c.in-Ok.told told.told bytes numbers long numbers_long (g.met.S.Walking.sized c.args.set.now) (verdict_of c.fill.result) c.fill.ensures.answer _ _
    (back ∙ c.fill.ensures.bytes) (numbers_back ∙ c.fill.ensures.numbers) in
    record { opens = all.opens }

pub returns-clause-filled : goal.returns-clause-filled
returns-clause-filled g c =
    let s = g.S.Walking.meant c.args.set.now in
    let told = c.in-Ok.ensures in
    let bytes = c.deref_mut.result.now in
    let numbers = c.deref_mut-2.result.now in
    let long = asked c.in_ok-bytes.bytes bytes _ c.deref_mut.ensures.len (c.in_ok-bytes.ensures.len ∙ c.bytes.ensures) in
    let numbers_long = c.deref_mut-2.ensures.len ∙ c.in_ok-numbers.ensures.len ∙ c.numbers.ensures in
    let back = handed_back c.in_ok-bytes.bytes bytes c.fill.new.bytes c.deref_mut.ensures.value c.fill.auto.bytes in
    let numbers_back = handed_back c.in_ok-numbers.numbers numbers c.fill.new.numbers c.deref_mut-2.ensures.value c.fill.auto.numbers in
    let all =
    whole c.args.choice s told.law.0 c.in-Ok.told told.told bytes numbers long numbers_long (g.met.S.Walking.sized c.args.set.now) (verdict_of c.fill.result) c.fill.ensures.answer _ _
    (back ∙ c.fill.ensures.bytes) (numbers_back ∙ c.fill.ensures.numbers) in
    record { choice = all.choice; takes = all.takes; parts = all.parts; set = all.means; told = told.told; bytes = all.bytes_are; numbers = all.numbers_are }
