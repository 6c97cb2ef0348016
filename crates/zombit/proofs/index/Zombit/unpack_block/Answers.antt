-- What is left to show of `Zombit::unpack_block`.
use Rattle.std.proofs.Common.{◌≡◌, ℕ, ◌+◌, ◌*◌, suc, min, true, false, List, length, sym, ap, subst, ◌∙◌, suc-mul, add-one, arith}
use Rattle.zombit.specs.Meant.{U, O, bits_before_block}
use Rattle.zombit.specs.Unpacking.{Unpacked}
use Rattle.zombit.proofs.Room.{bits_on}
use Rattle.zombit.proofs.Unpacked.{whole_new, whole_old, added_all, added_bare, block_bay}
use Rattle.zombit.proofs.index.Zombit.unpack_block.Goals as goal
use Rattle.zombit.proofs.index.Zombit.unpack_block.Goals.{then-get, else-get}

pub returns-clause-bits : goal.returns-clause-bits
returns-clause-bits c =
    let z = c.args.self.now in
    let k = c.args.reached.block in
    let uniform = ap (U z) (sym (add-one k)) ∙ sym c.if-not-get.ensures in
    c.requires.bits ∙ sym (bits_on z.blocks.size (U z) k uniform) ∙ ap (bits_before_block z) (sym (add-one k))

pub returns-clause-wrote : goal.returns-clause-wrote
returns-clause-wrote c there =
    let z = c.args.self.now in
    let k = c.args.reached.block in
    let β = z.blocks.size in
    let q = c.requires in
    let n = 8 * length c.args.out.now in
    let e : ℕ = (k + 1) * β in
    let next : e ≡ k * β + β = ap (λ (x : ℕ). x * β) (add-one k) ∙ suc-mul k β in
    let uniform : U z (suc k) ≡ true = ap (U z) (sym (add-one k)) ∙ sym c.if-not-get.ensures in
    let marked : O z (suc k) ≡ c.get-2.result = ap (O z) (sym (add-one k)) ∙ sym c.get-2.ensures in
    elim c.if-get.branch [
      | then-get w ↦
          let all = block_bay z k true uniform (marked ∙ w.if-get.true) in
          let to : w.min-to.result ≡ min c.args.end e = omega (arith, w.min-to.ensures, w.place-first.ensures, next) in
          let first : w.place-first.result ≡ k * β = omega (arith, w.place-first.ensures) in
          let from = w.max-from.ensures in
          subst (λ (bytes : List ℕ). Unpacked z c.args.before e bytes) (sym w.out-is)
          (whole_new _ _ c.args.out.now _ w.mark.ensures.long (w.mark.ensures.bits n _ c.args.out.now (omega arith) (whole_old _ _ there) (omega arith))
          (added_all z k e c.args.before c.args.end n (omega (arith, next)) (omega (arith, next, q.low)) q.high q.order q.end
          w.place-first.result w.max-from.result w.min-to.result first w.max-from.ensures to (λ b low high. all b low (omega (arith, high, next)))))
      | else-get w ↦
          let bare = block_bay z k false uniform (marked ∙ w.if-get.false) in
          subst (λ (bytes : List ℕ). Unpacked z c.args.before e bytes) (sym w.out-is)
          (there ∙ added_bare z k e c.args.before c.args.end n (omega (arith, next)) (omega (arith, next, q.low)) q.high q.order q.end
          (λ b low high. bare b low (omega (arith, high, next))))
    ]
