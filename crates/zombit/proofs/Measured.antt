-- What is told of a set, and when its block size was taken.
use Rattle.std.proofs.Common.{◌≡◌, ℕ, ◌*◌, List, Bool, length, Ok, sym, ap, ◌∙◌}
use Rattle.sets.specs.Packing.{bytes_for}
use Rattle.sets.proofs.Packing.{pack_length}
use Rattle.faults.specs.Checks.{located}
use Rattle.faults.specs.declared.fault.Flaw.TheVariants.{BlockSize as WrongSize}
use Rattle.faults.specs.declared.fault.Form.TheVariants.{Zombit}
use Rattle.faults.proofs.Steps.{range_law, held}
use Rattle.zombit.specs.Blocks.{blocks_of, mixed_before}
use Rattle.zombit.specs.Filling.{uniform_bit, marked_bit, mixed_bit, told_of, mixed_length}
use Rattle.zombit.specs.Lawful.{BlockSize}
use Rattle.zombit.specs.Opening.{size_check}
use Rattle.zombit.specs.declared.told.ZombitTold.{ZombitTold}

-- a block size that was taken is one
pub size_taken : (β : ℕ) → Ok tt ≡ located Zombit 0 (size_check β) → BlockSize β
size_taken β e = held Zombit 4 0 (BlockSize β) (size_check β) (range_law WrongSize 2 4096 β) (sym e)

-- the numbers that are counted are those that are told
pub told_is : (β : ℕ) (s : List Bool) (u n row k m : ℕ) → u ≡ length s → n ≡ blocks_of u β → row ≡ bytes_for n → k ≡ mixed_before (uniform_bit β s) (blocks_of u β) → m ≡ bytes_for (k * β)
    → ◌≡◌ {A = ZombitTold} (record { last = u; size = β; uniform = row; marked = row; mixed = m }) (told_of β s)
told_is β s u n row k m long count bytes mixed more =
    let blocks : n ≡ blocks_of (length s) β = count ∙ ap (λ (x : ℕ). blocks_of x β) long in
    let each : row ≡ bytes_for (blocks_of (length s) β) = bytes ∙ ap bytes_for blocks in
    let bits : k ≡ mixed_before (uniform_bit β s) (blocks_of (length s) β) = mixed ∙ ap (λ (x : ℕ). mixed_before (uniform_bit β s) (blocks_of x β)) long in
    let us = each ∙ sym (pack_length (blocks_of (length s) β) (uniform_bit β s)) in
    let os = each ∙ sym (pack_length (blocks_of (length s) β) (marked_bit β s)) in
    let ms = more ∙ ap (λ (x : ℕ). bytes_for (x * β)) bits ∙ sym (pack_length (mixed_length β s) (mixed_bit β s)) in
    λ i. record { last = long i; size = β; uniform = us i; marked = os i; mixed = ms i }
