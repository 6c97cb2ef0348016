-- What is left to show of `ListWalking::bits`.
use Rattle.std.proofs.Common.{◌≡◌, ℕ, ◌+◌, ◌-◌, ◌*◌, List, length, take, drop, sym, ap, ◌∙◌, arith}
use Rattle.std.proofs.lemmas.List.{take_all, length-drop}
use Rattle.bits.proofs.Packing.{pack_same}
use Rattle.list.specs.Decoding.{is_among}
use Rattle.list.proofs.Holding.{member_among}
use Rattle.list.proofs.Put.{among_behind}
use Rattle.list.proofs.asks.ListWalking.bits.Goals as goal

pub returns : goal.returns
returns c =
    let self = c.args.self.now in
    let ns = self.numbers.now in
    let k = c.members_to-first.result in
    let before = c.args.before in
    let rest : take (length ns - k) (drop k ns) ≡ drop k ns = take_all (length ns - k) (drop k ns) (omega (arith, length-drop k ns)) in
    c.put_numbers.ensures
    ∙ pack_same (8 * length c.args.out.now) _ _ (λ j one l.
    ap (λ (ms : List ℕ). is_among ms (before + j)) rest
    ∙ among_behind ns self.climbs before k (before + j) c.members_to-first.ensures.cut (omega arith)
    ∙ sym (member_among self.last ns self.inside (before + j)))
