-- What is filled is opened, and what is opened and filled anew is the same.
use Rattle.std.proofs.Common.{◌≡◌, ℕ, ◌≤◌, Bool, List, [], ◌∷◌, length, Ok, sym, ap, ◌∙◌, subst, arith}
use Rattle.faults.specs.Checks.{last_check}
use Rattle.faults.specs.declared.fault.Flaw.TheVariants.{Numbers, BlockSize as WrongSize}
use Rattle.faults.proofs.Steps.{range_law, passed}
use Rattle.sets.specs.Made.{made_length}
use Rattle.sets.specs.Sets.{Sized, LastBay}
use Rattle.bits.specs.Bits.{bit_at}
use Rattle.sets.specs.Packing.{bytes_for}
use Rattle.bits.specs.Checks.{Whole, Clear, length_check, spare_check}
use Rattle.bits.proofs.Checked.{length_law, spare_law}
use Rattle.bits.specs.Packing.{Bytes}
use Rattle.bits.proofs.Packing.{packs, packs_only}
use Rattle.zombit.specs.Blocks.{blocks_of, bits_before, bay_in, set_of}
use Rattle.zombit.specs.Filling.{uniform_bit, marked_bit, mixed_bit, mixed_length, uniform_of, marked_of, mixed_of}
use Rattle.zombit.specs.Lawful.{BlockSize, LawfulO, LawfulM}
use Rattle.zombit.specs.Opening.{size_check, mark_check, mix_check, mixed_bits, part_check, opening}
use Rattle.zombit.specs.Refilling.{RefillsReturn}
use Rattle.zombit.specs.Told.{Told}
use Rattle.zombit.proofs.Checked.{mark_law, mix_law}
use Rattle.zombit.proofs.Demands.{lawful, accepted}
use Rattle.zombit.proofs.Encoded.{rows_tell, told_same, uniform_once, marked_once, mixed_once, set_told}
use Rattle.zombit.proofs.Lawful.{lawful_told}
use Rattle.zombit.proofs.Mixing.{bits_agree}

-- ---- what is filled is opened

module _ (u β : ℕ) (us os ms : List ℕ) where
  opened : LastBay u → BlockSize β → Whole (blocks_of u β) us → Whole (blocks_of u β) os → Whole (mixed_bits u β us) ms
      → Clear (blocks_of u β) us → Clear (blocks_of u β) os → Clear (mixed_bits u β us) ms
      → LawfulO u β (bit_at us) (bit_at os) → LawfulM u β (bit_at us) (bit_at ms) → opening u β us os ms ≡ Ok tt
  opened last size whole_u whole_o whole_m clear_u clear_o clear_m law_o law_m =
      let n = blocks_of u β in
      let m = mixed_bits u β us in
      let last = passed 1 (LastBay u) (last_check u) (range_law Numbers 1 65535 u) last in
      let size = passed 4 (BlockSize β) (size_check β) (range_law WrongSize 2 4096 β) size in
      let whole_u = passed 2 (Whole n us) (length_check n us) (length_law n us) whole_u in
      let whole_o = passed 2 (Whole n os) (length_check n os) (length_law n os) whole_o in
      let whole_m = passed 2 (Whole m ms) (length_check m ms) (length_law m ms) whole_m in
      let clear_u = passed 3 (Clear n us) (spare_check n us) (spare_law n us) clear_u in
      let clear_o = passed 3 (Clear n os) (spare_check n os) (spare_law n os) clear_o in
      let clear_m = passed 3 (Clear m ms) (spare_check m ms) (spare_law m ms) clear_m in
      let law_o = passed 6 (LawfulO u β (bit_at us) (bit_at os)) (mark_check u β us os) (mark_law u β us os) law_o in
      let law_m = passed 6 (LawfulM u β (bit_at us) (bit_at ms)) (mix_check u β us ms) (mix_law u β us ms) law_m in
      λ i.
      part_check 0 (last i)
      (part_check 0 (size i)
      (part_check 1 (whole_u i)
      (part_check 2 (whole_o i)
      (part_check 3 (whole_m i)
      (part_check 1 (clear_u i)
      (part_check 2 (clear_o i)
      (part_check 3 (clear_m i)
      (part_check 2 (law_o i)
      (part_check 3 (law_m i) (Ok tt))))))))))

module _ (β : ℕ) (s : List Bool) where
  abbrev n : ℕ
  n = blocks_of (length s) β

  uniform_packs : (i : ℕ) → 1 ≤ i → i ≤ n → bit_at (uniform_of β s) i ≡ uniform_bit β s i
  uniform_packs = (packs n (uniform_bit β s)).3

  pub rows_told : Told (length s) β s (bit_at (uniform_of β s)) (bit_at (marked_of β s)) (bit_at (mixed_of β s))
  rows_told =
      told_same (length s) β s (uniform_bit β s) (marked_bit β s) (mixed_bit β s) _ _ _
      uniform_packs (packs n (marked_bit β s)).3 (packs (mixed_length β s) (mixed_bit β s)).3 (rows_tell β s)

  -- M has as many bits as the mixed blocks of U take
  bits_told : mixed_length β s ≡ mixed_bits (length s) β (uniform_of β s)
  bits_told = bits_agree β (uniform_bit β s) (bit_at (uniform_of β s)) n (λ i l h. sym (uniform_packs i l h))

  pub keeps : BlockSize β → Sized s → (opening (length s) β (uniform_of β s) (marked_of β s) (mixed_of β s) ≡ Ok tt) × (set_of (length s) β (uniform_of β s) (marked_of β s) (mixed_of β s) ≡ s)
  keeps size sized =
      let same = set_told β s _ _ _ (omega (arith, size.0)) rows_told in
      let U = bit_at (uniform_of β s) in
      let O = bit_at (marked_of β s) in
      let M = bit_at (mixed_of β s) in
      let told = subst (λ t. Told (length s) β t U O M) (sym same) rows_told in
      let law = (lawful_told (length s) β U O M size).1 told in
      let us = packs n (uniform_bit β s) in
      let os = packs n (marked_bit β s) in
      let ms = packs (mixed_length β s) (mixed_bit β s) in (
        opened (length s) β (uniform_of β s) (marked_of β s) (mixed_of β s) sized size us.0 os.0 (ms.0 ∙ ap bytes_for bits_told)
            us.1 os.1 (subst (λ (m : ℕ). Clear m (mixed_of β s)) bits_told ms.1) law.0 law.1,
        same,
      )

-- ---- what is opened is filled anew

module _ (u β : ℕ) (us os ms : List ℕ) (s : List Bool) (long : length s ≡ u) (some : 1 ≤ β) (told : Told u β s (bit_at us) (bit_at os) (bit_at ms)) where
  here : Told (length s) β s (bit_at us) (bit_at os) (bit_at ms)
  here = subst (λ (x : ℕ). Told x β s (bit_at us) (bit_at os) (bit_at ms)) (sym long) told

  blocks : blocks_of (length s) β ≡ blocks_of u β
  blocks = ap (λ (x : ℕ). blocks_of x β) long

  agree : (i : ℕ) → 1 ≤ i → i ≤ blocks_of (length s) β → bit_at us i ≡ uniform_bit β s i
  agree = uniform_once (length s) β s (bit_at us) (bit_at os) (bit_at ms) (uniform_bit β s) (marked_bit β s) (mixed_bit β s) here.0 (rows_tell β s).0

  bits : mixed_length β s ≡ mixed_bits u β us
  bits = sym (bits_agree β (bit_at us) (uniform_bit β s) (blocks_of (length s) β) agree) ∙ ap (bits_before β (bit_at us)) blocks

  uniform_back : Whole (blocks_of u β) us → Clear (blocks_of u β) us → Bytes us → uniform_of β s ≡ us
  uniform_back whole clear bytes =
      sym (packs_only (blocks_of (length s) β) (uniform_bit β s) us (whole ∙ ap bytes_for (sym blocks), subst (λ (x : ℕ). Clear x us) (sym blocks) clear, bytes, agree))

  marked_back : Whole (blocks_of u β) os → Clear (blocks_of u β) os → Bytes os → marked_of β s ≡ os
  marked_back whole clear bytes =
      let same = marked_once (length s) β s (bit_at us) (bit_at os) (bit_at ms) (uniform_bit β s) (marked_bit β s) (mixed_bit β s) here.1 (rows_tell β s).1 in
      sym (packs_only (blocks_of (length s) β) (marked_bit β s) os (whole ∙ ap bytes_for (sym blocks), subst (λ (x : ℕ). Clear x os) (sym blocks) clear, bytes, same))

  mixed_back : Whole (mixed_bits u β us) ms → Clear (mixed_bits u β us) ms → Bytes ms → mixed_of β s ≡ ms
  mixed_back whole clear bytes =
      let same = mixed_once (length s) β s (bit_at us) (bit_at os) (bit_at ms) (uniform_bit β s) (marked_bit β s) (mixed_bit β s) some here (rows_tell β s) in
      let within : mixed_length β s ≡ bits_before β (bit_at us) (blocks_of (length s) β) = sym (bits_agree β (bit_at us) (uniform_bit β s) (blocks_of (length s) β) agree) in
      sym (packs_only (mixed_length β s) (mixed_bit β s) ms (
        whole ∙ ap bytes_for (sym bits),
        subst (λ (x : ℕ). Clear x ms) (sym bits) clear,
        bytes,
        λ i one last. same i one (omega (arith, last, within)),
      ))

pub refills_return : RefillsReturn
refills_return u β us os ms bytes_u bytes_o bytes_m opened =
    let law = lawful u β us os ms (Ok tt) (sym opened) in
    let parts = accepted u β us os ms law in
    let size : BlockSize β = law.1.0 in
    let U = bit_at us in
    let O = bit_at os in
    let M = bit_at ms in
    let s = set_of u β us os ms in
    let long = made_length u (bay_in β U O M) in
    let told = (lawful_told u β U O M size).0 ((parts.marks, parts.within), (parts.ones, parts.zeros, parts.ends)) in
    let some : 1 ≤ β = omega (arith, size.0) in
    let us' = uniform_back u β us os ms s long some told parts.whole_u parts.clear_u bytes_u in
    let os' = marked_back u β us os ms s long some told parts.whole_o parts.clear_o bytes_o in
    let ms' = mixed_back u β us os ms s long some told parts.whole_m parts.clear_m bytes_m in
    (λ i. record { last = long i; size = β; uniform = length (us' i); marked = length (os' i); mixed = length (ms' i) }, λ i. us' i ∷ os' i ∷ ms' i ∷ [])
