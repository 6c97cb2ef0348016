-- What some blocks more have.
use Rattle.std.proofs.Common.{◌≡◌, ℕ, ◌+◌, ◌-◌, ◌*◌, ◌/◌, ◌^◌, ◌≤◌, Bool, not, length, sym, ap, ◌∙◌, zero-mul, mul-le-mul_right, arith}
use Rattle.std.proofs.Math.Nat.{add-mul}
use lib.Bits.{bit_and}
use lib.Count.{ones}
use Rattle.sets.specs.declared.Sort.{Sort}
use Rattle.sets.specs.Search.{count_to}
use Rattle.sets.specs.Sets.{share}
use Rattle.sets.proofs.Sharing.{count_share}
use Rattle.sets.proofs.Tests.{count_none, count_le}
use Rattle.bits.specs.Words.{Holds}
use Rattle.bits.proofs.Held.{count_all, front_held, others_held}
use Rattle.zombit.specs.Blocks.{mixed_before}
use Rattle.zombit.specs.Meant.{U, O, M, blocks, bays, sorted, bits_before_block}
use Rattle.zombit.specs.Passing.{IsPassed}
use Rattle.zombit.specs.declared.index.Zombit.{Zombit}
use Rattle.zombit.proofs.Counted.{blocks_count}
use Rattle.zombit.proofs.Indexed.{before_within, places_few}

-- the ones among the first n of 64 bits
pub ones_first : (f : ℕ → Bool) (p n x : ℕ) → n ≤ 64 → Holds f p 64 x → count_to f (p + n) ≡ count_to f p + ones (bit_and x ((2 ^ 64 - 1) / 2 ^ (64 - n)))
ones_first f p n x few h = count_all f p n _ (front_held f p 64 x (64 - n) n h (omega arith))

pub mixed_first : (U : ℕ → Bool) (k n x : ℕ) → n ≤ 64 → Holds U k 64 x
    → mixed_before U (k + n) ≡ mixed_before U k + ones (bit_and (2 ^ 64 - 1 - x) ((2 ^ 64 - 1) / 2 ^ (64 - n)))
mixed_first U k n x few h = ones_first (λ j. not (U j)) k n _ few (others_held U k 64 x h)

module _ (z : Zombit) where
  abbrev β : ℕ
  β = z.blocks.size

  -- no block was passed
  pub none_passed : IsPassed z (record { block = 0; bits = 0; members = 0 })
  none_passed = record {
    within = omega arith;
    bits = sym (ap (λ (x : ℕ). x * β) (count_none (λ j. not (U z j))) ∙ zero-mul β);
    members = sym (ap (count_to (bays z)) (zero-mul β) ∙ count_none (bays z));
  }

  -- how many are of a sort
  pub shared : (sort : Sort) (members n r : ℕ) → members ≡ count_to (bays z) n → r ≡ share sort members n → r ≡ count_to (sorted z sort) n
  shared sort members n r e s = s ∙ ap (λ (m : ℕ). share sort m n) e ∙ sym (count_share (bays z) sort n)

  module _ (k n mixed bits : ℕ) (within : k + n ≤ blocks z) (m : mixed_before (U z) (k + n) ≡ mixed_before (U z) k + mixed) (e : bits ≡ bits_before_block z k) where
    bits_more : bits + mixed * β ≡ bits_before_block z (k + n)
    bits_more = omega (arith, e, ap (λ (x : ℕ). x * β) m, add-mul (mixed_before (U z) k) mixed β)

    pub bits_room : bits + mixed * β ≤ 8 * length z.mixed.now
    bits_room = omega (arith, bits_more, before_within z (k + n) within)

    module _ (marked members more : ℕ) (o : count_to (O z) (k + n) ≡ count_to (O z) k + marked) (seen : members ≡ count_to (bays z) (k * β)) (counted : count_to (M z) (bits + mixed * β) ≡ count_to (M z) bits + more) where
      pub members_more : members + marked * β + more ≡ count_to (bays z) ((k + n) * β) + mixed * β
      members_more =
          let before = blocks_count z k (omega (arith, within)) in
          let after = blocks_count z (k + n) within in
          omega (
            arith,
            before,
            after,
            bits_more,
            e,
            seen,
            counted,
            ap (count_to (M z)) e,
            ap (count_to (M z)) bits_more,
            ap (λ (x : ℕ). x * β) o,
            add-mul (count_to (O z) k) marked β,
          )

      pub members_few : members + marked * β + more ≤ z.blocks.last + β + mixed * β
      members_few = omega (arith, members_more, count_le (bays z) ((k + n) * β), mul-le-mul_right β within, places_few z)

      pub passed_more : (q : ℕ) → q ≡ k + n → IsPassed z (record { block = q; bits = bits + mixed * β; members = members + marked * β + more - mixed * β })
      passed_more q same = record {
        within = omega (arith, same, within);
        bits = bits_more ∙ ap (bits_before_block z) (sym same);
        members = omega (arith, members_more, ap (λ (x : ℕ). count_to (bays z) (x * β)) same);
      }
