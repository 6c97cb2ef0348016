-- The parts of a set are opened, stand for it, and tell its runs.
use Rattle.std.proofs.Common.{◌≡◌, ℕ, suc, ◌+◌, ◌-◌, Bool, not, ◌&&◌, List, length, Ok, sym, refl, ap, ◌∙◌, subst, arith}
use Rattle.sets.specs.declared.Sort.TheVariants.{Members}
use Rattle.sets.specs.Sets.{is_member, rank_of, Sized}
use Rattle.sets.proofs.Bays.{is_none, is_beyond, is_bay}
use Rattle.sets.proofs.Made.{made_again}
use Rattle.bits.specs.Bits.{bit_at}
use Rattle.bits.proofs.Packing.{packs}
use Rattle.pioneer.specs.Decoding.{Tells}
use Rattle.pioneer.specs.Filling.{count_of, begins, ends, starts_part, sums_part}
use Rattle.pioneer.specs.Opening.{opening}
use Rattle.pioneer.specs.Runs.{in_run, Lawful, set_of}
use Rattle.pioneer.proofs.Coding.{Codes, codes_lawful, codes_inside}
use Rattle.pioneer.proofs.Members.{rank_low, rank_most, rank_here, ends_at}
use Rattle.pioneer.proofs.Telling.{tells}
use Rattle.pioneer.proofs.Demands.{opens}

module _ (s : List Bool) where
  abbrev P : ℕ → Bool
  P = bit_at (starts_part s)

  abbrev L : ℕ → Bool
  L = bit_at (sums_part s)

  coded : Codes (length s) (is_member s) P L
  unfolding rank_of
  coded = record {
    low = is_none s Members 0 refl;
    high = is_beyond s Members (suc (length s)) (omega arith);
    starts = λ i h.
        let same : suc i - 1 ≡ i = omega arith in
        (packs (length s) (begins s)).3 (suc i) (omega arith) h ∙ ap (λ j. is_member s (suc i) && not (is_member s j)) same;
    sums = λ i h e.
        let bay = is_bay s Members i e in
        let next : i + 1 ≡ suc i = omega arith in
        (packs (count_of s) (ends s)).3 (rank_of s Members i) (omega (arith, rank_here s i bay.0 (sym e))) (rank_most s i h) ∙ ends_at s i e ∙ ap (λ j. not (is_member s j)) next;
  }

  lawful : Lawful (length s) (count_of s) P L
  unfolding rank_of
  lawful = codes_lawful (length s) (is_member s) P L coded

  pub opened : Sized s → opening (length s) (count_of s) (starts_part s) (sums_part s) ≡ Ok tt
  opened h =
      let starts = packs (length s) (begins s) in
      let sums = packs (count_of s) (ends s) in
      opens (length s) (count_of s) (starts_part s) (sums_part s) (record {
        sized = h;
        most = rank_low s (length s);
        whole_starts = starts.0;
        whole_sums = sums.0;
        clear_starts = starts.1;
        clear_sums = sums.1;
        lawful = lawful;
      })

  pub stands : set_of (length s) (count_of s) (starts_part s) (sums_part s) ≡ s
  unfolding rank_of
  stands = made_again s (in_run (length s) (count_of s) P L) (λ i l h. codes_inside (length s) (is_member s) P L coded i h)

  pub parts_tell : Tells (length s) (count_of s) P L s
  parts_tell = subst (Tells (length s) (count_of s) P L) stands (tells (length s) (count_of s) P L lawful)
