-- The numbers that pass a test: the first, the last, how many, the k-th.
use Rattle.std.specs.Prelude.{ℕ, zero, suc, ◌+◌, Bool, cond, ◌&&◌, Some, None, Option, ◌==◌}

-- the first of the n numbers from p on that passes
unfoldable pub first_from : (ℕ → Bool) → ℕ → ℕ → Option ℕ
first_from f p zero = None
first_from f p (suc n) = cond (f p) (Some p) (first_from f (suc p) n)

-- the last of the numbers 1 to n that passes
unfoldable pub last_to : (ℕ → Bool) → ℕ → Option ℕ
last_to f zero = None
last_to f (suc n) = cond (f (suc n)) (Some (suc n)) (last_to f n)

-- how many of the numbers 1 to n pass
unfoldable pub count_to : (ℕ → Bool) → ℕ → ℕ
count_to f zero = 0
count_to f (suc n) = cond (f (suc n)) 1 0 + count_to f n

-- the k-th of the numbers 1 to n that pass
unfoldable pub kth_to : (ℕ → Bool) → ℕ → ℕ → Option ℕ
kth_to f k n = first_from (λ b. f b && count_to f b == k) 1 n
