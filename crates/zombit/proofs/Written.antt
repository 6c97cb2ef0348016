-- A row at the front of a memory.
use Rattle.std.proofs.Common.{◌≡◌, ℕ, ◌-◌, ◌*◌, ◌/◌, ◌%◌, ◌^◌, ◌≤◌, Bool, eqb, List, ◌++◌, length, drop, length-append, ap, ◌∙◌, arith}
use Rattle.std.proofs.lemmas.List.{get_or_append_left}
use Rattle.sets.specs.Lists.{over}
use Rattle.bits.specs.Bits.{bit_at}
use Rattle.sets.specs.Packing.{pack}
use Rattle.bits.proofs.Packing.{packs}
use Rattle.sets.proofs.Packing.{pack_length}
use Rattle.bits.specs.Rows.{TellsRow}

bit_front : (front rest : List ℕ) (i : ℕ) → 1 ≤ i → i ≤ 8 * length front → bit_at (front ++ rest) i ≡ bit_at front i
unfolding bit_at
bit_front front rest i one within = ap (λ x. eqb (x / 2 ^ ((i - 1) % 8) % 2) 1) (get_or_append_left front rest 0 ((i - 1) / 8) (omega arith))

pub over_tells : (n : ℕ) (row : ℕ → Bool) (old : List ℕ) → TellsRow n row (over (pack n row) old)
over_tells n row old i one within =
    bit_front (pack n row) _ i one (omega (arith, within, pack_length n row)) ∙ (packs n row).3 i one within

pub over_long : (n : ℕ) (row : ℕ → Bool) (old : List ℕ) → n ≤ 8 * length (over (pack n row) old)
over_long n row old = omega (arith, pack_length n row, length-append (pack n row) (drop (length (pack n row)) old))
