-- What opening a zombit index answers, and what it then has.
use Rattle.std.specs.Prelude.{◌≡◌, ℕ, suc, ◌+◌, ◌-◌, ◌*◌, Bool, cond, not, ◌&&◌, List, is_some, Ok, nat_lt}
use Rattle.faults.specs.Checks.{Check, Verdict, range_check, last_check, located, first_of, none_found, Needs, Accepted}
use Rattle.faults.specs.declared.fault.Flaw as flaws
use Rattle.faults.specs.declared.fault.Form as forms
use Rattle.sets.specs.Search.{first_from}
use Rattle.sets.specs.Sets.{LastBay}
use Rattle.bits.specs.Bits.{bit_at}
use Rattle.bits.specs.Checks.{Whole, Clear, length_check, spare_check}
use Rattle.zombit.specs.Blocks.{blocks_of, bits_before}
use Rattle.zombit.specs.Lawful.{BlockSize, LawfulO, LawfulM}
use Rattle.zombit.specs.declared.index.Zombit.{Zombit}
use Rattle.zombit.specs.declared.source.ZombitSource.{ZombitSource}

abbrev pub size_check : ℕ → Check
size_check β = range_check flaws.TheVariants.BlockSize 2 4096 β

-- block k has the wrong bit in O: it is all members and reaches past the last bay, or it is mixed and has no bit
abbrev pub wrong_mark : ℕ → ℕ → (ℕ → Bool) → (ℕ → Bool) → ℕ → Bool
wrong_mark u β U O k = cond (U (suc k)) (O (suc k) && nat_lt u (k * β + β)) (not (O (suc k)))

abbrev pub mark_check : ℕ → ℕ → List ℕ → List ℕ → Check
mark_check u β us os = none_found flaws.TheVariants.Unlawful (first_from (wrong_mark u β (bit_at us) (bit_at os)) 0 (blocks_of u β))

-- one of the n bits after the first a passes
abbrev pub some_in : (ℕ → Bool) → ℕ → ℕ → Bool
some_in f a n = is_some (first_from f (suc a) n)

-- the β bits after the first a are a mixed block: there is a one and a zero, and no one after the first e
abbrev pub fit_block : (ℕ → Bool) → ℕ → ℕ → ℕ → Bool
fit_block M a β e = some_in M a β && (some_in (λ i. not (M i)) a β && not (some_in M (a + e) (β - e)))

-- block k is mixed, and its bits in M are no mixed block
abbrev pub wrong_mix : ℕ → ℕ → (ℕ → Bool) → (ℕ → Bool) → ℕ → Bool
wrong_mix u β U M k = not (U (suc k)) && not (fit_block M (bits_before β U k) β (u - k * β))

abbrev pub mix_check : ℕ → ℕ → List ℕ → List ℕ → Check
mix_check u β us ms = none_found flaws.TheVariants.Unlawful (first_from (wrong_mix u β (bit_at us) (bit_at ms)) 0 (blocks_of u β))

-- how many bits M has
abbrev pub mixed_bits : ℕ → ℕ → List ℕ → ℕ
mixed_bits u β us = bits_before β (bit_at us) (blocks_of u β)

-- the numbers are part 0, and U, O and M the parts 1, 2 and 3
abbrev pub part_check : ℕ → Check → Verdict → Verdict
part_check part check rest = first_of (located forms.TheVariants.Zombit part check) rest

abbrev pub opening : ℕ → ℕ → List ℕ → List ℕ → List ℕ → Verdict
opening u β us os ms =
    part_check 0 (last_check u)
    (part_check 0 (size_check β)
    (part_check 1 (length_check (blocks_of u β) us)
    (part_check 2 (length_check (blocks_of u β) os)
    (part_check 3 (length_check (mixed_bits u β us) ms)
    (part_check 1 (spare_check (blocks_of u β) us)
    (part_check 2 (spare_check (blocks_of u β) os)
    (part_check 3 (spare_check (mixed_bits u β us) ms)
    (part_check 2 (mark_check u β us os)
    (part_check 3 (mix_check u β us ms) (Ok tt))))))))))

-- what a zombit index must be, in the order in which it is asked: a last bay and a block size in range; exactly as many bytes as the
-- bits of U, O and M take; no 1 after the last bit of each; the right bits in O, and then in M
abbrev pub OpeningIs : ℕ → ℕ → List ℕ → List ℕ → List ℕ → Verdict → Type 0
OpeningIs u β us os ms =
    Needs forms.TheVariants.Zombit 1 0 (LastBay u)
    (Needs forms.TheVariants.Zombit 4 0 (BlockSize β)
    (Needs forms.TheVariants.Zombit 2 1 (Whole (blocks_of u β) us)
    (Needs forms.TheVariants.Zombit 2 2 (Whole (blocks_of u β) os)
    (Needs forms.TheVariants.Zombit 2 3 (Whole (mixed_bits u β us) ms)
    (Needs forms.TheVariants.Zombit 3 1 (Clear (blocks_of u β) us)
    (Needs forms.TheVariants.Zombit 3 2 (Clear (blocks_of u β) os)
    (Needs forms.TheVariants.Zombit 3 3 (Clear (mixed_bits u β us) ms)
    (Needs forms.TheVariants.Zombit 6 2 (LawfulO u β (bit_at us) (bit_at os))
    (Needs forms.TheVariants.Zombit 6 3 (LawfulM u β (bit_at us) (bit_at ms)) Accepted)))))))))

-- an index has exactly the numbers and the parts of a source
abbrev pub Holds : Zombit → ZombitSource → Type 0
Holds z s =
    (z.blocks.last ≡ s.last) × (z.blocks.size ≡ s.size) × (z.uniform.now ≡ s.uniform.now) × (z.marked.now ≡ s.marked.now)
    × (z.mixed.now ≡ s.mixed.now)
