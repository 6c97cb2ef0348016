-- What is left to show of `write_rows`.
use Rattle.std.proofs.Common.{◌≡◌, ℕ, ◌*◌, ◌≤◌, Bool, List, length, sym, ap, ◌∙◌, subst, arith, rules}
use Rattle.sets.specs.Packing.{bytes_for, pack}
use Rattle.sets.proofs.Packing.{pack_length}
use Rattle.sets.specs.Lists.{over}
use Rattle.zombit.specs.Blocks.{blocks_of}
use Rattle.sets.specs.Made.{made_length}
use Rattle.bits.specs.Bits.{bit_at}
use Rattle.zombit.specs.Looking.{set_in}
use Rattle.zombit.specs.Filling.{uniform_bit, marked_bit}
use Rattle.bits.specs.Rows.{TellsRow}
use Rattle.zombit.proofs.Written.{over_tells, over_long}
use Rattle.zombit.proofs.write.write_rows.Goals as goal

-- the last bay of the set in a row
long_in : (u : ℕ) (row : List ℕ) → u ≡ length (set_in u row)
long_in u row = sym (made_length u (bit_at row))

-- so many bits as blocks were counted
module _ (β : ℕ) (s : List Bool) (u n : ℕ) (last : u ≡ length s) (count : n ≡ blocks_of u β) where
  blocks : n ≡ blocks_of (length s) β
  blocks = count ∙ ap (λ (x : ℕ). blocks_of x β) last

  enough : (row : ℕ → Bool) (m : ℕ) → length (pack (blocks_of (length s) β) row) ≤ m → bytes_for n ≤ m
  enough row m room = omega (arith, room, pack_length (blocks_of (length s) β) row, ap bytes_for blocks)

  whole : (row : ℕ → Bool) (old memory : List ℕ) → memory ≡ over (pack n row) old → memory ≡ over (pack (blocks_of (length s) β) row) old
  whole row old memory e = e ∙ ap (λ (x : ℕ). over (pack x row) old) blocks

  long : (row : ℕ → Bool) (old memory : List ℕ) → memory ≡ over (pack n row) old → blocks_of u β ≤ 8 * length memory
  long row old memory e = omega (arith, over_long n row old, ap length e, count)

  tells : (row : ℕ → Bool) (old memory : List ℕ) → memory ≡ over (pack n row) old → TellsRow (blocks_of u β) row memory
  tells row old memory e = subst (λ (x : ℕ). TellsRow x row memory) count (subst (TellsRow n row) (sym e) (over_tells n row old))

pub write-requires-clause-room : goal.write-requires-clause-room
write-requires-clause-room c =
    enough c.args.blocks.size (set_in c.args.blocks.last c.args.row.now) _ _ (long_in c.args.blocks.last c.args.row.now) c.count-count.ensures (uniform_bit c.args.blocks.size (set_in c.args.blocks.last c.args.row.now)) _ c.requires.room_u

pub write-requires-2-clause-room : goal.write-requires-2-clause-room
write-requires-2-clause-room c =
    enough c.args.blocks.size (set_in c.args.blocks.last c.args.row.now) _ _ (long_in c.args.blocks.last c.args.row.now) c.count-count.ensures (marked_bit c.args.blocks.size (set_in c.args.blocks.last c.args.row.now)) _ c.requires.room_o

pub write_mixed-requires-clause-long : goal.write_mixed-requires-clause-long
unfolding uniform_bit
write_mixed-requires-clause-long c =
    let b = c.args.blocks in
    let s = set_in c.args.blocks.last c.args.row.now in
    long b.size s b.last _ (long_in c.args.blocks.last c.args.row.now) c.count-count.ensures (uniform_bit b.size s) _ _ (c.write.ensures (uniform_bit b.size s) (λ i m first last post. search rules))

pub write_mixed-requires-clause-uniform : goal.write_mixed-requires-clause-uniform
unfolding uniform_bit
write_mixed-requires-clause-uniform c =
    let b = c.args.blocks in
    let s = set_in c.args.blocks.last c.args.row.now in
    tells b.size s b.last _ (long_in c.args.blocks.last c.args.row.now) c.count-count.ensures (uniform_bit b.size s) _ _ (c.write.ensures (uniform_bit b.size s) (λ i m first last post. search rules))

pub returns-clause-uniform : goal.returns-clause-uniform
unfolding uniform_bit
returns-clause-uniform c =
    let b = c.args.blocks in
    let s = set_in c.args.blocks.last c.args.row.now in
    whole b.size s b.last _ (long_in c.args.blocks.last c.args.row.now) c.count-count.ensures (uniform_bit b.size s) _ _ (c.write.ensures (uniform_bit b.size s) (λ i m first last post. search rules))

pub returns-clause-marked : goal.returns-clause-marked
unfolding marked_bit
returns-clause-marked c =
    let b = c.args.blocks in
    let s = set_in c.args.blocks.last c.args.row.now in
    whole b.size s b.last _ (long_in c.args.blocks.last c.args.row.now) c.count-count.ensures (marked_bit b.size s) _ _ (c.write-2.ensures (marked_bit b.size s) (λ i m first last post. search rules))
