-- What is left to show of `ListCounting::select`.
use Rattle.std.proofs.Common.{◌≡◌, ◌-◌, ◌∙◌, inl, inr, arith}
use Rattle.std.specs.List.{slice_get}
use Rattle.std.proofs.lemmas.Grind.{common_steps}
use Rattle.std.proofs.lemmas.Option.{gets}
use Rattle.list.proofs.Selected.{select_outside, select_member}
use Rattle.list.proofs.asks.ListCounting.select.Goals as goal

pub returns-in_err-place : goal.returns-in_err-place
returns-in_err-place c = c.from_residual.ensures ∙ select_outside _ _ c.args.sort _ (inl (omega (arith, c.in_err-place.ensures)))

pub returns-then-n-self : goal.returns-then-n-self
returns-then-n-self c = select_outside _ _ c.args.sort _ (inr c.if-n-self.true)

pub returns-in-Members : goal.returns-in-Members
returns-in-Members c =
    let self = c.args.self.now in
    let got : c.map.result ≡ slice_get self.numbers.now (c.args.n - 1) = grind (arith, common_steps, gets) in
    rw c.in-Members.is (got ∙ select_member _ _ self.inside self.climbs _ (omega (arith, c.in_ok-place.ensures)))

pub returns-in-Others : goal.returns-in-Others
returns-in-Others c = rw c.in-Others.is c.nth_other.ensures
