-- The numbers that the ones of 64 bits stand for.
use Rattle.std.specs.Prelude.{ℕ, suc, ◌-◌, List, filter}
use Rattle.std.specs.List.{range_with_len}
use Rattle.bits.specs.Words.{digit}

-- those after p, rising, of which w has a 1
unfoldable pub ones_after : ℕ → ℕ → List ℕ
ones_after w p = filter (λ i. digit w (i - suc p)) (range_with_len (suc p) 64)
