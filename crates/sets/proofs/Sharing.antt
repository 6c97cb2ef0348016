-- How many numbers are of a sort, where it is known how many pass.
use Rattle.std.proofs.Common.{◌≡◌, ℕ, Bool, refl, arith}
use Rattle.sets.specs.declared.Sort.{Sort}
use Rattle.sets.specs.declared.Sort.TheVariants.{Members, Others}
use Rattle.sets.specs.Made.{of_sort}
use Rattle.sets.specs.Search.{count_to}
use Rattle.sets.specs.Sets.{share}
use Rattle.sets.proofs.Tests.{count_others}

pub count_share : (f : ℕ → Bool) (k : Sort) (n : ℕ) → count_to (of_sort k f) n ≡ share k (count_to f n) n
count_share f Members n = refl
count_share f Others n = omega (arith, count_others f n)
