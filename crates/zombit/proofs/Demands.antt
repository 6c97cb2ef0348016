-- What is asked of a zombit index, one check after the other.
use Rattle.std.proofs.Common.{◌≡◌, ℕ, List, Ok, sym, subst}
use Rattle.faults.specs.Checks.{Check, CheckIs, Verdict, last_check, located, first_of, Needs, Accepted}
use Rattle.faults.specs.declared.fault.Flaw.TheVariants.{Numbers, BlockSize as WrongSize}
use Rattle.faults.specs.declared.fault.Form.TheVariants.{Zombit}
use Rattle.faults.proofs.Steps.{range_law, then}
use Rattle.sets.specs.Sets.{LastBay}
use Rattle.bits.specs.Bits.{bit_at}
use Rattle.bits.specs.Checks.{Whole, Clear, length_check, spare_check}
use Rattle.bits.proofs.Checked.{length_law, spare_law}
use Rattle.zombit.specs.Blocks.{blocks_of}
use Rattle.zombit.specs.Lawful.{BlockSize, Marked, Within, SomeOne, SomeZero, Ended, LawfulO, LawfulM}
use Rattle.zombit.specs.Opening.{size_check, mark_check, mix_check, mixed_bits, opening, OpeningIs}
use Rattle.zombit.proofs.Checked.{mark_law, mix_law}

-- a demand that the verdict meets
record Asked (demand : Verdict → Type 0) (verdict : Verdict) : Type 0 where
  meets : demand verdict

ask : (n part : ℕ) (P : Type 0) (check : Check) {rest : Verdict → Type 0} {verdict : Verdict} → CheckIs n P check → Asked rest verdict
    → Asked (Needs Zombit n part P rest) (first_of (located Zombit part check) verdict)
ask n part P check {rest} {verdict} law on = record { meets = then Zombit n part P check rest verdict law (λ _. on.meets) }

none : Asked Accepted (Ok tt)
none = record { meets = tt }

pub opening_law : (u β : ℕ) (us os ms : List ℕ) → OpeningIs u β us os ms (opening u β us os ms)
opening_law u β us os ms =
    let n = blocks_of u β in
    let m = mixed_bits u β us in
    let all : Asked (OpeningIs u β us os ms) (opening u β us os ms) =
    ask 1 0 (LastBay u) (last_check u) (range_law Numbers 1 65535 u)
    (ask 4 0 (BlockSize β) (size_check β) (range_law WrongSize 2 4096 β)
    (ask 2 1 (Whole n us) (length_check n us) (length_law n us)
    (ask 2 2 (Whole n os) (length_check n os) (length_law n os)
    (ask 2 3 (Whole m ms) (length_check m ms) (length_law m ms)
    (ask 3 1 (Clear n us) (spare_check n us) (spare_law n us)
    (ask 3 2 (Clear n os) (spare_check n os) (spare_law n os)
    (ask 3 3 (Clear m ms) (spare_check m ms) (spare_law m ms)
    (ask 6 2 (LawfulO u β (bit_at us) (bit_at os)) (mark_check u β us os) (mark_law u β us os)
    (ask 6 3 (LawfulM u β (bit_at us) (bit_at ms)) (mix_check u β us ms) (mix_law u β us ms)
    none))))))))) in
    all.meets

-- what answers as the definition does meets the demands
pub lawful : (u β : ℕ) (us os ms : List ℕ) (r : Verdict) → r ≡ opening u β us os ms → OpeningIs u β us os ms r
lawful u β us os ms r e = subst (OpeningIs u β us os ms) (sym e) (opening_law u β us os ms)

-- what is accepted is lawful in every part
module _ (u β : ℕ) (us os ms : List ℕ) where
  abbrev PartsLawful : Type 0
  PartsLawful = record {
    whole_u : Whole (blocks_of u β) us;
    whole_o : Whole (blocks_of u β) os;
    whole_m : Whole (mixed_bits u β us) ms;
    clear_u : Clear (blocks_of u β) us;
    clear_o : Clear (blocks_of u β) os;
    clear_m : Clear (mixed_bits u β us) ms;
    marks : Marked u β (bit_at us) (bit_at os);
    within : Within u β (bit_at us) (bit_at os);
    ones : SomeOne u β (bit_at us) (bit_at ms);
    zeros : SomeZero u β (bit_at us) (bit_at ms);
    ends : Ended u β (bit_at us) (bit_at ms);
  }

  pub accepted : OpeningIs u β us os ms (Ok tt) → PartsLawful
  accepted law =
      let whole = law.1.1 in
      let clear = whole.1.1.1 in
      let marks = clear.1.1.1.0 in
      let mixes = clear.1.1.1.1.0 in
      record {
        whole_u = whole.0;
        whole_o = whole.1.0;
        whole_m = whole.1.1.0;
        clear_u = clear.0;
        clear_o = clear.1.0;
        clear_m = clear.1.1.0;
        marks = marks.0;
        within = marks.1;
        ones = mixes.0;
        zeros = mixes.1;
        ends = mixes.2;
      }
