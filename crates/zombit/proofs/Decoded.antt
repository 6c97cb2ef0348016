-- The set that a zombit index stands for obeys its law.
use Rattle.std.proofs.Common.{ℕ, suc, ◌+◌, ◌*◌, Bool, List, ◌∙◌, arith}
use Rattle.std.proofs.lemmas.Bool.{cond-true, cond-false}
use Rattle.sets.specs.Made.{made_length}
use Rattle.sets.specs.declared.Sort.TheVariants.{Members}
use Rattle.sets.proofs.Made.{made_is}
use Rattle.bits.specs.Bits.{bit_at}
use Rattle.zombit.specs.Blocks.{bay_in, set_of}
use Rattle.zombit.specs.Decoding.{Decodes}
use Rattle.zombit.proofs.Places.{bay_in_block}

pub decodes : (u β : ℕ) (us os ms : List ℕ) → Decodes u β us os ms (set_of u β us os ms)
decodes u β us os ms = (
  made_length u f,
  λ k j p l.
      let bay = made_is u f Members (k * β + j) (omega (arith, p.0)) l ∙ bay_in_block β k j (bit_at us) (bit_at os) (bit_at ms) p in
      (λ uniform. bay ∙ cond-true (bit_at us (suc k)) _ _ uniform, λ mixed. bay ∙ cond-false (bit_at us (suc k)) _ _ mixed),
)
  where
    f : ℕ → Bool
    f = bay_in β (bit_at us) (bit_at os) (bit_at ms)
