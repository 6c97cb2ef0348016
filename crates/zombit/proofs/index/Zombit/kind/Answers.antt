-- What is left to show of `Zombit::kind`.
use Rattle.std.proofs.Common.{◌≡◌, ℕ, suc, ◌+◌, ◌*◌, Bool, true, sym, ap, ◌∙◌, arith}
use Rattle.sets.specs.declared.Sort.{Sort}
use Rattle.sets.specs.Sets.{fits}
use Rattle.zombit.specs.Lawful.{Place}
use Rattle.zombit.specs.Meant.{U, O, sorted}
use Rattle.zombit.specs.declared.index.Zombit.{Zombit}
use Rattle.zombit.proofs.Indexed.{bay_uniform}
use Rattle.zombit.proofs.index.Zombit.kind.Goals as goal

as_marked : (z : Zombit) (sort : Sort) (k : ℕ) (b : Bool) → true ≡ U z (k + 1) → b ≡ fits sort (O z (k + 1)) → (j : ℕ) → Place z.blocks.size j → sorted z sort (k * z.blocks.size + j) ≡ b
as_marked z sort k b y e j p =
    let s : suc k ≡ k + 1 = omega arith in
    ap (fits sort) (bay_uniform z k j p (ap (U z) s ∙ sym y) ∙ ap (O z) s) ∙ sym e

pub returns-then-fits : goal.returns-then-fits
returns-then-fits c = as_marked c.args.self.now _ _ _ c.if-not-get.ensures (c.if-fits.ensures ∙ ap (fits c.args.sort) c.get-else-not-get.ensures)

pub returns-else-fits : goal.returns-else-fits
returns-else-fits c = as_marked c.args.self.now _ _ _ c.if-not-get.ensures (c.if-fits.ensures ∙ ap (fits c.args.sort) c.get-else-not-get.ensures)
