-- The bits of a set are opened, and stand for it; and what is opened are the bits of the set that it stands for.
use Rattle.std.proofs.Common.{◌≡◌, ℕ, Bool, List, length, Ok, Err, OnOk, refl, ap, ◌∙◌, subst, inl, inr}
use Rattle.std.proofs.lemmas.Bool.{both_ways}
use Rattle.faults.specs.Checks.{Check, CheckIs, last_check, located, first_of}
use Rattle.faults.specs.declared.fault.Flaw.TheVariants.{Numbers}
use Rattle.faults.specs.declared.fault.Form as forms
use Rattle.faults.proofs.Steps.{range_law, passed}
use Rattle.sets.specs.declared.Sort.TheVariants.{Members}
use Rattle.sets.specs.Made.{made_length}
use Rattle.sets.specs.Sets.{is_member, LastBay, Sized}
use Rattle.sets.proofs.Made.{made_again, made_is}
use Rattle.bits.specs.Bits.{bit_at}
use Rattle.bits.specs.Checks.{Whole, Clear, CheckedIs, bits_check}
use Rattle.bits.specs.Packing.{Bytes}
use Rattle.sets.specs.Packing.{pack}
use Rattle.bits.proofs.Checked.{bits_law}
use Rattle.bits.proofs.Packing.{packs, pack_same, pack_back}
use Rattle.plain.specs.Decoding.{set_of}
use Rattle.plain.specs.Filling.{bits_of}
use Rattle.plain.specs.Opening.{opening, Lawful}

-- ---- filled and opened

bits_passed : (n : ℕ) (bytes : List ℕ) (check : Check) → CheckedIs n bytes check → Whole n bytes → Clear n bytes → check ≡ Ok tt
bits_passed n bytes (Ok _) law whole clear = refl
bits_passed n bytes (Err e) (inl law) whole clear = absurd (law.1 whole)
bits_passed n bytes (Err e) (inr law) whole clear = let spare = law.1.1 in absurd (both_ways _ (clear spare.0 spare.1.0) spare.1.1)

pub opened : (s : List Bool) → Sized s → opening (length s) (bits_of s) ≡ Ok tt
opened s h =
    let law = packs (length s) (is_member s) in
    let last = passed 1 (LastBay (length s)) (last_check (length s)) (range_law Numbers 1 65535 (length s)) h in
    let bits = bits_passed (length s) (bits_of s) _ (bits_law (length s) (bits_of s)) law.0 law.1 in
    λ i. first_of (located forms.TheVariants.Plain 0 (last i)) (located forms.TheVariants.Plain 1 (bits i))

pub stands : (s : List Bool) → set_of (length s) (bits_of s) ≡ s
stands s = made_again s (bit_at (bits_of s)) (packs (length s) (is_member s)).3

-- ---- opened and filled

both_passed : (u : ℕ) (bytes : List ℕ) (last bits : Check) → CheckIs 1 (LastBay u) last → CheckedIs u bytes bits
    → OnOk (first_of (located forms.TheVariants.Plain 0 last) (located forms.TheVariants.Plain 1 bits)) (Lawful u bytes)
both_passed u bytes (Ok _) (Ok _) h law = (h, law.0, law.1)
both_passed u bytes (Ok _) (Err e) h law = tt
both_passed u bytes (Err e) bits h law = tt

pub refilled : (u : ℕ) (bytes : List ℕ) → Bytes bytes → opening u bytes ≡ Ok tt → bits_of (set_of u bytes) ≡ bytes
refilled u bytes small e =
    let s = set_of u bytes in
    let lawful = subst (λ v. OnOk v (Lawful u bytes)) e (both_passed u bytes (last_check u) (bits_check u bytes) (range_law Numbers 1 65535 u) (bits_law u bytes)) in
    ap (λ (n : ℕ). pack n (is_member s)) (made_length u (bit_at bytes))
    ∙ pack_same u (is_member s) (bit_at bytes) (λ i l h. made_is u (bit_at bytes) Members i l h)
    ∙ pack_back u bytes lawful.1 lawful.2 small
