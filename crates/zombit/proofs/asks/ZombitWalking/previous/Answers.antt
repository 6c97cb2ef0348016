-- What is left to show of `ZombitWalking::previous`.
use Rattle.std.proofs.Common.{◌≡◌, ℕ, min, None, Option, sym, ap, ◌∙◌}
use Rattle.sets.specs.declared.Sort.{Sort}
use Rattle.sets.specs.Search.{last_to}
use Rattle.sets.specs.Sets.{previous_of}
use Rattle.sets.proofs.Made.{made_previous}
use Rattle.zombit.specs.Meant.{meaning, bays, sorted}
use Rattle.zombit.specs.declared.index.Zombit.{Zombit}
use Rattle.zombit.proofs.asks.ZombitWalking.previous.Goals as goal

to_last : (z : Zombit) (sort : Sort) (i p : ℕ) (r : Option ℕ) → p ≡ min i z.blocks.last → last_to (sorted z sort) p ≡ r
    → r ≡ previous_of (meaning z) sort i
to_last z sort i p r e h = sym h ∙ ap (last_to (sorted z sort)) e ∙ made_previous z.blocks.last (bays z) sort i

none_yet : (z : Zombit) (sort : Sort) (p : ℕ) → p ≡ 0 → last_to (sorted z sort) p ≡ None
unfolding last_to
none_yet z sort p e = ap (last_to (sorted z sort)) e

pub returns-then-to-eq0 : goal.returns-then-to-eq0
returns-then-to-eq0 c = let z = c.args.self.now in to_last z _ _ _ _ c.min-to.ensures (none_yet z _ _ c.if-to-eq0.true)

pub returns-in-Some : goal.returns-in-Some
returns-in-Some c = to_last c.args.self.now _ _ _ _ (c.spot-block.ensures.bay ∙ c.min-to.ensures) c.in-Some.ensures

pub returns-in-None : goal.returns-in-None
returns-in-None c =
    to_last c.args.self.now _ _ _ _ (c.spot-block.ensures.bay ∙ c.min-to.ensures) (c.in-None.ensures ∙ sym c.last_to_block.ensures)
