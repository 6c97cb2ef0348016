-- What is opened are the parts of the set that it stands for.
use Rattle.std.proofs.Common.{◌≡◌, ℕ, ◌+◌, ◌≤◌, Bool, not, List, length, Some, None, Option, unwrap_or, sym, ap, ◌∙◌, ⊎_elim, arith}
use Rattle.sets.specs.declared.Sort.TheVariants.{Members}
use Rattle.sets.specs.Laws.{SelectIs}
use Rattle.sets.specs.Made.{made_length}
use Rattle.sets.specs.Sets.{is_member, rank_of}
use Rattle.sets.proofs.Lawful.{select_ranks}
use Rattle.bits.specs.Bits.{bit_at}
use Rattle.bits.specs.Packing.{Bytes}
use Rattle.sets.specs.Packing.{pack}
use Rattle.bits.proofs.Packing.{pack_same, pack_back}
use Rattle.pioneer.specs.Decoding.{Tells}
use Rattle.pioneer.specs.Filling.{count_of, begins, ends, starts_part, sums_part}
use Rattle.pioneer.specs.Runs.{set_of}
use Rattle.pioneer.proofs.Telling.{tells}
use Rattle.pioneer.proofs.Demands.{Taken}

module _ (u n : ℕ) (starts sums : List ℕ) (t : Taken u n starts sums) where
  abbrev told : List Bool
  told = set_of u n starts sums

  abbrev says : Tells u n (bit_at starts) (bit_at sums) told
  says = tells u n (bit_at starts) (bit_at sums) t.lawful

  pub long : length told ≡ u
  long = made_length u _

  pub counted : count_of told ≡ n
  counted = ap (rank_of told Members) long ∙ says.count

  -- the bit of the m-th member
  ends_by : (m : ℕ) (o : Option ℕ) → SelectIs told Members m o → 1 ≤ m → m ≤ n → not (is_member told (unwrap_or o 0 + 1)) ≡ bit_at sums m
  ends_by m None law l h = absurd (⊎_elim (λ z. omega arith) (λ few. omega (arith, counted)) law)
  ends_by m (Some q) law l h = sym (says.sums q law.0) ∙ ap (bit_at sums) law.1

  pub starts_again : Bytes starts → starts_part told ≡ starts
  starts_again small =
      ap (λ m. pack m (begins told)) long
      ∙ pack_same u (begins told) (bit_at starts) (λ i l h. sym (says.starts i l h))
      ∙ pack_back u starts t.whole_starts t.clear_starts small

  pub sums_again : Bytes sums → sums_part told ≡ sums
  sums_again small =
      ap (λ m. pack m (ends told)) counted
      ∙ pack_same n (ends told) (bit_at sums) (λ m l h. ends_by m _ (select_ranks told Members m) l h)
      ∙ pack_back n sums t.whole_sums t.clear_sums small
