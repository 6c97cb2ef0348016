-- What is left to show of `write_mixed`.
use Rattle.std.proofs.Common.{◌≡◌, ℕ, suc, ◌+◌, ◌*◌, ◌<◌, ◌≤◌, Bool, true, false, not, List, length, sym, ap, ◌∙◌, mul-le-mul_right, suc-mul, zero-mul, add-one, arith}
use Rattle.bits.specs.Bits.{bit_at}
use Rattle.sets.specs.Packing.{bytes_for, pack}
use Rattle.sets.proofs.Packing.{pack_length}
use Rattle.sets.specs.Lists.{over}
use Rattle.sets.proofs.Tests.{count_none}
use Rattle.zombit.specs.Blocks.{blocks_of, bits_before}
use Rattle.sets.specs.Made.{made_length}
use Rattle.zombit.specs.Looking.{set_in}
use Rattle.zombit.specs.Filling.{uniform_bit, mixed_bit, mixed_length, mixed_of}
use Rattle.bits.specs.Rows.{first_bits, TellsRow}
use Rattle.zombit.specs.declared.blocks.Blocks.{Blocks}
use Rattle.zombit.proofs.Added.{row_copied}
use Rattle.zombit.proofs.Looked.{row_bay}
use Rattle.zombit.proofs.Mixing.{mixed_tells, bits_agree, read_bit}
use Rattle.zombit.proofs.Room.{mixed_few, mixed_room, bits_on, bits_here}
use Rattle.bits.proofs.Rows.{row_none, row_all}
use Rattle.zombit.proofs.write.write_mixed.Goals as goal
use Rattle.zombit.proofs.write.write_mixed.Goals.{then-not-get, else-not-get}

-- the last bay of the set in a row
long : (b : Blocks) (row : List ℕ) → b.last ≡ length (set_in b.last row)
long b row = sym (made_length b.last (bit_at row))

module _ (b : Blocks) (s : List Bool) (last : b.last ≡ length s) where
  abbrev U : ℕ → Bool
  U = uniform_bit b.size s

  blocks : blocks_of b.last b.size ≡ blocks_of (length s) b.size
  blocks = ap (λ (x : ℕ). blocks_of x b.size) last

  -- the bits that were counted are those of the row
  counted : (us : List ℕ) (n : ℕ) → TellsRow (blocks_of b.last b.size) U us → n ≡ bits_before b.size (bit_at us) (blocks_of b.last b.size) → n ≡ mixed_length b.size s
  counted us n tells e = e ∙ bits_agree b.size (bit_at us) U (blocks_of b.last b.size) tells ∙ ap (bits_before b.size U) blocks

  few : mixed_length b.size s ≤ 69631
  few = omega (arith, mixed_few b.size U (length s) (omega (arith, b.blocked.0)), b.sized.1, b.blocked.1, last)

  -- a mixed block has its bits among them
  room : (k start : ℕ) → k < blocks_of b.last b.size → U (suc k) ≡ false → start ≡ bits_before b.size U k → start + b.size ≤ mixed_length b.size s
  room k start l mixed at = omega (arith, mixed_room b.size U k (blocks_of (length s) b.size) (omega (arith, l, blocks)) mixed, at)

  enough : (m : ℕ) → length (mixed_of b.size s) ≤ m → bytes_for (mixed_length b.size s) ≤ m
  enough m h = omega (arith, h, pack_length (mixed_length b.size s) (mixed_bit b.size s))

pub clear-requires : goal.clear-requires
clear-requires c =
    let b = c.args.blocks in
    let s = set_in c.args.blocks.last c.args.row.now in
    let n = counted b s (long c.args.blocks c.args.row.now) c.args.uniform.now c.mixed_bits.result c.requires.uniform
    (c.mixed_bits.ensures.value ∙ ap (bits_before b.size (bit_at c.args.uniform.now)) c.count-count.ensures) in
    omega (arith, ap bytes_for n, enough b s (long c.args.blocks c.args.row.now) (length c.args.mixed.now) c.requires.room)

pub loop-k-init : goal.loop-k-init
loop-k-init c =
    let b = c.args.blocks in
    let s = set_in c.args.blocks.last c.args.row.now in
    let n = counted b s (long c.args.blocks c.args.row.now) c.args.uniform.now c.mixed_bits.result c.requires.uniform
    (c.mixed_bits.ensures.value ∙ ap (bits_before b.size (bit_at c.args.uniform.now)) c.count-count.ensures) in (
      sym (ap (λ (x : ℕ). x * b.size) (count_none (λ j. not (uniform_bit b.size s j))) ∙ zero-mul b.size),
      c.clear.ensures ∙ ap (λ (x : ℕ). over (pack x (λ i. false)) c.args.mixed.now) n
          ∙ ap (λ p. over p c.args.mixed.now) (row_none (mixed_length b.size s) (mixed_bit b.size s)),
    )

pub copy-requires-clause-room : goal.copy-requires-clause-room
copy-requires-clause-room c =
    let b = c.args.blocks in
    let s = set_in c.args.blocks.last c.args.row.now in
    let mixed = read_bit (uniform_bit b.size s) c.args.uniform.now (blocks_of b.last b.size) c.loop-k.k false c.requires.uniform (omega arith) c.if-not-get.ensures in
    let room = room b s (long c.args.blocks c.args.row.now) c.loop-k.k c.loop-k.start (omega arith) mixed c.loop-k.invariant.0 in
    let enough = enough b s (long c.args.blocks c.args.row.now) (length c.args.mixed.now) c.requires.room in
    omega (arith, room, enough, c.loop-k.auto.mixed, c.clear.auto.bytes)

pub copy-requires-clause-within : goal.copy-requires-clause-within
copy-requires-clause-within c =
    let b = c.args.blocks in
    let among = mul-le-mul_right b.size (let l : suc c.loop-k.k ≤ blocks_of b.last b.size = omega arith in l) in
    omega (arith, among, suc-mul c.loop-k.k b.size, c.place.ensures, c.requires.row.0)

pub overflow_add-start : goal.overflow_add-start
overflow_add-start c =
    let b = c.args.blocks in
    let s = set_in c.args.blocks.last c.args.row.now in
    let mixed = read_bit (uniform_bit b.size s) c.args.uniform.now (blocks_of b.last b.size) c.loop-k.k false c.requires.uniform (omega arith) c.if-not-get.ensures in
    omega (arith, room b s (long c.args.blocks c.args.row.now) c.loop-k.k c.loop-k.start (omega arith) mixed c.loop-k.invariant.0, few b s (long c.args.blocks c.args.row.now))

pub loop-k-preserved : goal.loop-k-preserved
loop-k-preserved c =
    let b = c.args.blocks in
    let s = set_in c.args.blocks.last c.args.row.now in
    let us = c.args.uniform.now in
    let k = c.loop-k.k in
    let n = mixed_length b.size s in
    let row = mixed_bit b.size s in
    let old = c.args.mixed.now in
    let next = ap (bits_before b.size (uniform_bit b.size s)) (add-one k) in
    let within : k < blocks_of b.last b.size = omega arith in
    elim c.if-not-get.branch [
      | then-not-get w ↦
          let mixed = read_bit (uniform_bit b.size s) us _ k false c.requires.uniform within w.if-not-get.ensures in
          let tells = mixed_tells b.size s k (omega (arith, within, blocks b s (long c.args.blocks c.args.row.now))) mixed in
          let start = c.loop-k.invariant.0 in (
            omega (arith, w.start-is, start, next, bits_here b.size (uniform_bit b.size s) k mixed),
            w.mixed-is
                ∙ w.copy.ensures.bits n (first_bits c.loop-k.start row) old (room b s (long b c.args.row.now) k _ within mixed start) c.loop-k.invariant.1
                (enough b s (long b c.args.row.now) _ c.requires.room)
                ∙ ap (λ front. over front old)
                (row_copied row (bit_at c.args.row.now) n c.loop-k.start b.size w.place.result (λ j one last.
                let at : w.place.result + j ≡ k * b.size + j = omega (arith, w.place.ensures) in
                ap (bit_at c.args.row.now) at ∙ row_bay b.last b.size c.args.row.now c.requires.row (k * b.size + j) (omega arith)
                ∙ sym (tells j (one, last)) ∙ ap (λ (x : ℕ). row (x + j)) (sym start)))
                ∙ ap (λ (x : ℕ). over (pack n (first_bits x row)) old) (sym w.start-is),
          )
      | else-not-get w ↦
          let uniform = read_bit (uniform_bit b.size s) us _ k true c.requires.uniform within w.if-not-get.ensures in (
            omega (arith, w.start-is, c.loop-k.invariant.0, next, bits_on b.size (uniform_bit b.size s) k uniform),
            w.mixed-is ∙ c.loop-k.invariant.1 ∙ ap (λ (x : ℕ). over (pack n (first_bits x row)) old) (sym w.start-is),
          )
    ]

pub returns : goal.returns
returns c =
    let b = c.args.blocks in
    let s = set_in c.args.blocks.last c.args.row.now in
    let n = mixed_length b.size s in
    let row = mixed_bit b.size s in
    let all : c.loop-k.k ≡ blocks_of (length s) b.size = omega (arith, c.loop-k.auto.k-end, c.loop-k-test.false, c.count-count.ensures, blocks b s (long c.args.blocks c.args.row.now)) in
    let start : c.loop-k.start ≡ n = c.loop-k.invariant.0 ∙ ap (bits_before b.size (uniform_bit b.size s)) all in
    c.loop-k.invariant.1 ∙ ap (λ (x : ℕ). over (pack n (first_bits x row)) c.args.mixed.now) start ∙ ap (λ p. over p c.args.mixed.now) (row_all n n row (omega arith))
