-- What opening demands is met exactly where it accepts.
use Rattle.std.proofs.Common.{◌≡◌, ℕ, ◌≤◌, leb, List, Ok, Err, refl, arith}
use Rattle.std.proofs.lemmas.Bool.{cond_both, leb-true, leb-false}
use Rattle.faults.specs.Checks.{CheckIs, last_check, located, first_of}
use Rattle.faults.specs.declared.fault.Flaw.TheVariants.{Numbers}
use Rattle.faults.specs.declared.fault.Form.TheVariants.{Pioneer}
use Rattle.faults.proofs.Steps.{range_law, passed, held, held_first}
use Rattle.sets.specs.Sets.{LastBay}
use Rattle.bits.specs.Bits.{bit_at}
use Rattle.bits.specs.Checks.{Whole, Clear, length_check, spare_check}
use Rattle.bits.proofs.Checked.{length_law, spare_law}
use Rattle.pioneer.specs.Opening.{count_check, runs_check, opening}
use Rattle.pioneer.specs.Runs.{Lawful}
use Rattle.pioneer.proofs.Checking.{runs_law}

count_law : (n u : ℕ) → CheckIs 1 (n ≤ u) (count_check n u)
count_law n u = cond_both (leb n u) (Ok tt) (Err Numbers) (CheckIs 1 (n ≤ u)) (λ e. leb-true n u e) (λ e. (refl, λ h. omega (arith, leb-false n u e)))

module _ (u n : ℕ) (starts sums : List ℕ) where
  -- the numbers and the parts make an index
  abbrev pub Taken : Type 0
  Taken = record {
    sized : LastBay u;
    most : n ≤ u;
    whole_starts : Whole u starts;
    whole_sums : Whole n sums;
    clear_starts : Clear u starts;
    clear_sums : Clear n sums;
    lawful : Lawful u n (bit_at starts) (bit_at sums);
  }

  pub opens : Taken → opening u n starts sums ≡ Ok tt
  opens t =
      let last = passed 1 _ (last_check u) (range_law Numbers 1 65535 u) t.sized in
      let count = passed 1 _ (count_check n u) (count_law n u) t.most in
      let long_starts = passed 2 _ (length_check u starts) (length_law u starts) t.whole_starts in
      let long_sums = passed 2 _ (length_check n sums) (length_law n sums) t.whole_sums in
      let spare_starts = passed 3 _ (spare_check u starts) (spare_law u starts) t.clear_starts in
      let spare_sums = passed 3 _ (spare_check n sums) (spare_law n sums) t.clear_sums in
      let runs = passed 6 _ (runs_check u n (bit_at starts) (bit_at sums)) (runs_law u n (bit_at starts) (bit_at sums)) t.lawful in
      λ i.
      first_of (located Pioneer 0 (last i)) (first_of (located Pioneer 0 (count i))
      (first_of (located Pioneer 1 (long_starts i)) (first_of (located Pioneer 2 (long_sums i))
      (first_of (located Pioneer 1 (spare_starts i)) (first_of (located Pioneer 2 (spare_sums i))
      (located Pioneer 2 (runs i)))))))

  pub taken : opening u n starts sums ≡ Ok tt → Taken
  taken e =
      let last = held_first Pioneer 1 0 (LastBay u) (last_check u) _ (range_law Numbers 1 65535 u) e in
      let count = held_first Pioneer 1 0 (n ≤ u) (count_check n u) _ (count_law n u) last.1 in
      let long_starts = held_first Pioneer 2 1 (Whole u starts) (length_check u starts) _ (length_law u starts) count.1 in
      let long_sums = held_first Pioneer 2 2 (Whole n sums) (length_check n sums) _ (length_law n sums) long_starts.1 in
      let spare_starts = held_first Pioneer 3 1 (Clear u starts) (spare_check u starts) _ (spare_law u starts) long_sums.1 in
      let spare_sums = held_first Pioneer 3 2 (Clear n sums) (spare_check n sums) _ (spare_law n sums) spare_starts.1 in
      record {
        sized = last.0;
        most = count.0;
        whole_starts = long_starts.0;
        whole_sums = long_sums.0;
        clear_starts = spare_starts.0;
        clear_sums = spare_sums.0;
        lawful = held Pioneer 6 2 (Lawful u n (bit_at starts) (bit_at sums)) (runs_check u n (bit_at starts) (bit_at sums)) (runs_law u n (bit_at starts) (bit_at sums)) spare_sums.1;
      }
