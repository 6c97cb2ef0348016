-- The bits of the bays behind some, and of all bays.
use Rattle.std.proofs.Common.{◌≡◌, ℕ, ◌+◌, ◌*◌, ◌≤◌, Bool, List, ◌++◌, length, take, drop, sym, ap, ◌∙◌, ⊎_elim, arith}
use Rattle.std.proofs.lemmas.Bool.{cases_lt}
use Rattle.std.proofs.lemmas.List.{length-take}
use Rattle.sets.specs.declared.Sort.TheVariants.{Members}
use Rattle.sets.specs.Lists.{over}
use Rattle.sets.specs.Packing.{bytes_for, pack, member_after}
use Rattle.sets.specs.Sets.{is_member}
use Rattle.sets.proofs.Packing.{pack_length}
use Rattle.sets.proofs.Bays.{is_beyond}
use Rattle.sets.proofs.Made.{made_is, made_outside}
use Rattle.bits.specs.Bits.{bit_at}
use Rattle.bits.specs.Checks.{Clear}
use Rattle.bits.proofs.Packing.{packs, packs_only, pack_same}
use Rattle.plain.specs.Decoding.{set_of}
use Rattle.plain.specs.Filling.{bits_of}

-- the bits of a plain index tell of the bays behind some, as there are no ones behind the last bay
pub after_bits : (u : ℕ) (bytes : List ℕ) (n before : ℕ) → Clear u bytes
    → pack n (λ i. bit_at bytes (before + i)) ≡ pack n (member_after (set_of u bytes) before)
after_bits u bytes n before clear =
    pack_same n _ _ (λ i one l. ⊎_elim
    (λ past. clear (before + i) past ∙ sym (made_outside u (bit_at bytes) Members (before + i) past))
    (λ bay. sym (made_is u (bit_at bytes) Members (before + i) (omega arith) bay))
    (cases_lt u (before + i)))

-- all bays of a set, with zeros behind them until the last byte is full, are the bits of the set
pub all_bits : (s : List Bool) → pack (8 * bytes_for (length s)) (member_after s 0) ≡ bits_of s
all_bits s =
    let n = 8 * bytes_for (length s) in
    let none : (i : ℕ) → member_after s 0 i ≡ is_member s i = λ i. let same : 0 + i ≡ i = omega arith in ap (is_member s) same in
    let law = packs n (member_after s 0) in
    packs_only (length s) (is_member s) (pack n (member_after s 0)) (
      law.0 ∙ (let same : bytes_for n ≡ bytes_for (length s) = omega arith in same),
      λ i past. ⊎_elim
          (λ behind. law.1 i behind)
          (λ within. law.3 i (omega arith) within ∙ none i ∙ is_beyond s Members i past)
          (cases_lt n i),
      law.2,
      λ i one l. law.3 i one (omega arith) ∙ none i,
    )

-- written to the front of a memory
pub all_written : (s : List Bool) (n : ℕ) (front memory : List ℕ) → n ≡ length (bits_of s) → n ≤ length memory
    → front ≡ pack (8 * length (take n memory)) (member_after s 0) → front ++ drop n memory ≡ over (bits_of s) memory
all_written s n front memory long room e =
    let full : length (take n memory) ≡ bytes_for (length s) = omega (arith, length-take n memory, long, pack_length (length s) (is_member s)) in
    let same = e ∙ ap (λ (m : ℕ). pack (8 * m) (member_after s 0)) full ∙ all_bits s in
    λ i. same i ++ drop (long i) memory
