-- How many of some bits are of a sort, where it is known how many of them are 1.
use Rattle.std.proofs.Common.{◌≡◌, ℕ, ◌+◌, Bool, not, arith}
use Rattle.sets.specs.declared.Sort.{Sort}
use Rattle.sets.specs.declared.Sort.TheVariants.{Members, Others}
use Rattle.sets.specs.Made.{of_sort}
use Rattle.sets.specs.Search.{count_to}
use Rattle.sets.specs.Sets.{share}
use Rattle.sets.proofs.Tests.{count_others, count_mono}

-- of the n after the first a, of which m pass
pub share_more : (f : ℕ → Bool) (k : Sort) (a b n m : ℕ) → b ≡ a + n → count_to f b ≡ count_to f a + m → count_to (of_sort k f) b ≡ count_to (of_sort k f) a + share k m n
share_more f Members a b n m at h = h
share_more f Others a b n m at h = omega (arith, count_others f a, count_others f b, count_mono (λ j. not (f j)) a b (omega arith))
