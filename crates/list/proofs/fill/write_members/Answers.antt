-- What is left to show of `write_members`.
use Rattle.std.proofs.Common.{◌≡◌, ℕ, ◌+◌, ◌-◌, ◌*◌, ◌++◌, List, length, take, drop, sym, subst, arith, length-take}
use Rattle.std.proofs.lemmas.List.{length-drop}
use Rattle.bits.specs.Bits.{bit_at}
use Rattle.bits.specs.Words.{Holds}
use Rattle.list.specs.Words.{ones_after}
use Rattle.list.proofs.Written.{Going, going_start, going_on, fits, ones_told, one_bay, part_written}
use Rattle.list.proofs.fill.write_members.Goals as goal

pub loop-k-init : goal.loop-k-init
loop-k-init g c = going_start (g.S.Walking.meant c.args.set.now) c.args.numbers.now

-- eight bytes are 64 bits
aligned : (row : List ℕ) (k w : ℕ) → Holds (bit_at row) (8 * (8 * k)) 64 w → Holds (bit_at row) (64 * k) 64 w
aligned row k w h = let same : 8 * (8 * k) ≡ 64 * k = omega arith in subst (λ (p : ℕ). Holds (bit_at row) p 64 w) same h

pub write_ones-n-requires-clause-room : goal.write_ones-n-requires-clause-room
write_ones-n-requires-clause-room g c =
    let memory = c.loop-k.numbers in
    let n = c.loop-k.n in
    let s = g.S.Walking.meant c.args.set.now in
    let k = c.loop-k.k in
    let tells = ones_told s c.row_of-row.result k c.whole_word-word.result c.row_of-row.ensures (aligned _ _ _ c.whole_word-word.ensures) in
    let room = fits s c.args.numbers.now n k memory c.loop-k.invariant (ones_after c.whole_word-word.result (64 * k)) tells c.requires in
    omega (arith, room, length-take (length memory - n) (drop n memory), length-drop n memory)

pub write_ones-n-requires-clause-small : goal.write_ones-n-requires-clause-small
write_ones-n-requires-clause-small g c = λ t l e.
    let s = g.S.Walking.meant c.args.set.now in
    omega (arith, one_bay s c.row_of-row.result c.loop-k.k c.whole_word-word.result c.row_of-row.ensures (aligned _ _ _ c.whole_word-word.ensures) t l e, (g.met.S.Walking.sized c.args.set.now).1)

pub loop-k-preserved : goal.loop-k-preserved
loop-k-preserved g c =
    let s = g.S.Walking.meant c.args.set.now in
    let old = c.args.numbers.now in
    let memory = c.loop-k.numbers in
    let n = c.loop-k.n in
    let k = c.loop-k.k in
    let xs = ones_after c.whole_word-word.result (64 * k) in
    let tells = ones_told s c.row_of-row.result k c.whole_word-word.result c.row_of-row.ensures (aligned _ _ _ c.whole_word-word.ensures) in
    let written = take n memory ++ (c.write_ones-n.new.numbers ++ drop (length memory - n) (drop n memory)) in
    let on = going_on s old n k memory c.loop-k.invariant xs tells written c.requires (part_written n memory c.write_ones-n.new.numbers xs c.write_ones-n.ensures.wrote) in
    subst (λ (m : ℕ). Going s old (n + m) (k + 1) written) (sym c.write_ones-n.ensures.count) on
