-- What is left to show of `copy_bytes`.
use Rattle.std.proofs.Common.{◌≡◌, ◌-◌, ◌≤◌, min, length, take, drop, ap, ◌∙◌, arith}
use Rattle.std.proofs.lemmas.List.{length-take, length-drop}
use Rattle.plain.proofs.Copied.{written, holds, left}
use Rattle.plain.proofs.behind.copy_bytes.Goals as goal

pub returns : goal.returns
returns c =
    let bytes = c.args.bytes.now in
    let out = c.args.out.now in
    let k = c.min.result in
    let n = c.min-n.result in
    let few : n ≡ min (length bytes - k) (length out) = omega (arith, c.min-n.ensures, length-take (length bytes - k) (drop k bytes), length-drop k bytes) in
    let front = c.copy_from_slice.new.self in
    let copied = c.copy_from_slice.ensures.after in
    let long : length front ≡ n = ap length copied ∙ omega (arith, length-take n (take (length bytes - k) (drop k bytes)), length-take (length bytes - k) (drop k bytes), length-drop k bytes) in
    let room : n ≤ length out = omega (arith, few) in
    let rest = left out front n long room in
    written out front n long room c.fill.new.self
    ∙ holds bytes front c.fill.new.self (length out) c.args.j k n _ c.min.ensures few rest copied (c.fill.ensures.after (λ y e. e)) (λ i. (c.type_inv.bytes i).fits)
