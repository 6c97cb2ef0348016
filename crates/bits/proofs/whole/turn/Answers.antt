-- What is left to show of `turn`.
use Rattle.std.proofs.Common.{ℕ, ◌-◌, ◌*◌, ◌/◌, ◌<◌, length, get_or, not, ap, ◌∙◌, ⊎_elim, arith}
use Rattle.std.proofs.lemmas.Bool.{cases_lt}
use Rattle.bits.proofs.Changed.{pack_known, pack_tells, turned_bit}
use Rattle.bits.proofs.whole.turn.Goals as goal

pub returns : goal.returns
returns c f e =
    let before = c.args.bytes.now in
    let after = c.loop-byte.bytes in
    let kept = c.loop-byte.invariant in
    let n = 8 * length before in
    let small : (j : ℕ) → get_or after j 0 < 256 = λ j.
    ⊎_elim (λ done. omega (arith, kept.0 j done)) (λ left. omega (arith, kept.1 j left, kept.2 j)) (cases_lt j c.loop-byte.byte-index) in
    pack_known after n _ (omega (arith, c.loop-byte.auto.bytes)) small (λ i one last.
    turned_bit before after i one (kept.2 ((i - 1) / 8)) (kept.0 ((i - 1) / 8) (omega arith)) ∙ ap not (pack_tells before n f e i one last))
