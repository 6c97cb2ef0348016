-- What is left to show of `fill`.
use Rattle.std.proofs.Common.{◌≡◌, rules, sym, subst}
use Rattle.forms.specs.Laying.{laying, LayingIs}
use Rattle.forms.specs.Verdicts.{verdict_of}
use Rattle.forms.proofs.Laid.{laying_law}
use Rattle.forms.proofs.Stepped.{steps}
use Rattle.forms.proofs.laying.fill.Goals as goal

pub returns-in-Plain-clause-step : goal.returns-in-Plain-clause-step
returns-in-Plain-clause-step g c =
    steps c.args.choice _ c.args.bytes.now c.args.numbers.now _ _ c.map.result (g.met.S.Walking.sized c.args.set.now) (search rules) (search rules) (search rules) (search rules)

pub returns-in-List-clause-step : goal.returns-in-List-clause-step
returns-in-List-clause-step g c =
    steps c.args.choice _ c.args.bytes.now c.args.numbers.now _ _ c.map-in-List.result (g.met.S.Walking.sized c.args.set.now) (search rules) (search rules) (search rules) (search rules)

pub returns-in-Zombit-clause-step : goal.returns-in-Zombit-clause-step
returns-in-Zombit-clause-step g c =
    steps c.args.choice _ c.args.bytes.now c.args.numbers.now _ _ c.map-in-Zombit.result (g.met.S.Walking.sized c.args.set.now) (search rules) (search rules) (search rules) (search rules)

pub returns-in-Pioneer-clause-step : goal.returns-in-Pioneer-clause-step
returns-in-Pioneer-clause-step g c =
    steps c.args.choice _ c.args.bytes.now c.args.numbers.now _ _ c.map-in-Pioneer.result (g.met.S.Walking.sized c.args.set.now) (search rules) (search rules) (search rules) (search rules)

pub returns-in-Zombit-clause-law : goal.returns-in-Zombit-clause-law
returns-in-Zombit-clause-law g c =
    let s = g.S.Walking.meant c.args.set.now in
    let is : verdict_of c.map-in-Zombit.result ≡ laying c.args.choice s c.args.bytes.now c.args.numbers.now = search rules in
    subst (LayingIs c.args.choice s c.args.bytes.now c.args.numbers.now) (sym is) (laying_law c.args.choice s c.args.bytes.now c.args.numbers.now)
