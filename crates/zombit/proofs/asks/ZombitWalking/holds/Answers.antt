-- What is left to show of `ZombitWalking::holds`.
use Rattle.std.proofs.Common.{◌≡◌, ℕ, ◌+◌, ◌*◌, ◌≤◌, Bool, sym, ap, ◌∙◌, arith}
use Rattle.sets.specs.declared.Sort.TheVariants.{Members}
use Rattle.sets.specs.Sets.{is_member}
use Rattle.sets.proofs.Bays.{is_none}
use Rattle.sets.proofs.Made.{made_is, made_outside}
use Rattle.zombit.specs.Meant.{meaning, M, bays}
use Rattle.zombit.specs.declared.index.Zombit.{Zombit}
use Rattle.zombit.proofs.Indexed.{bits_within, bay_mixed}
use Rattle.zombit.proofs.asks.ZombitWalking.holds.Goals as goal
use Rattle.zombit.proofs.asks.ZombitWalking.holds.Goals.{then-i-eq0-via-then-i-eq0, then-i-eq0-via-else-i-eq0+then-i-self}

pub returns-then-i-eq0 : goal.returns-then-i-eq0
returns-then-i-eq0 c =
    let z = c.args.self.now in
    elim c.then-i-eq0.branch [
      | then-i-eq0-via-then-i-eq0 w ↦ sym (is_none _ _ _ w.if-i-eq0.true)
      | then-i-eq0-via-else-i-eq0+then-i-self w ↦ sym (made_outside z.blocks.last (bays z) Members _ w.if-i-self.true)
    ]

at_spot : (z : Zombit) (i k at : ℕ) (b : Bool) → 1 ≤ i → i ≤ z.blocks.last → k * z.blocks.size + at ≡ i → b ≡ bays z (k * z.blocks.size + at)
    → b ≡ is_member (meaning z) i
at_spot z i k at b low high e h = h ∙ ap (bays z) e ∙ sym (made_is z.blocks.last (bays z) Members i low high)

pub get-requires : goal.get-requires
get-requires c =
    let z = c.args.self.now in
    let within = bits_within z _ c.spot-block.ensures.block c.in-Mixed.ensures in
    record {
      first = omega (arith, c.spot-block.ensures.first);
      within = omega (arith, within, c.bits_before.ensures.value, c.spot-block.ensures.end);
    }

pub returns-in-All : goal.returns-in-All
returns-in-All c =
    let s = c.spot-block.ensures in
    at_spot c.args.self.now _ _ _ _ (omega arith) (omega arith) s.bay (sym (c.in-All.ensures _ (s.first, s.end)))

pub returns-in-Bare : goal.returns-in-Bare
returns-in-Bare c =
    let s = c.spot-block.ensures in
    at_spot c.args.self.now _ _ _ _ (omega arith) (omega arith) s.bay (sym (c.in-Bare.ensures _ (s.first, s.end)))

pub returns-in-Mixed : goal.returns-in-Mixed
returns-in-Mixed c =
    let z = c.args.self.now in
    let s = c.spot-block.ensures in
    at_spot z _ _ _ _ (omega arith) (omega arith) s.bay
    (c.get.ensures ∙ ap (λ (n : ℕ). M z (n + c.spot-block.result.at)) c.bits_before.ensures.value ∙ sym (bay_mixed z _ _ (s.first, s.end) c.in-Mixed.ensures))
