-- Memory that is written from the front on, one place after the other.
use Rattle.std.proofs.Common.{◌≡◌, ℕ, ◌+◌, ◌<◌, ◌≤◌, List, [], ◌∷◌, ◌++◌, length, take, drop, set, sym, ap, ◌∙◌, add-one, arith, take-append-drop, length-take, drop-drop, take-suc-set}
use Rattle.std.proofs.lemmas.List.{drop-set-lt}
use Rattle.sets.specs.Lists.{over}

module _ {A : Type 0} where
  pub front_more : (n : ℕ) (xs : List A) (x : A) → n < length xs → take n xs ++ (x ∷ []) ≡ take (n + 1) (set xs n x)
  front_more n xs x h = sym (take-suc-set xs n x h) ∙ ap (λ (k : ℕ). take k (set xs n x)) (sym (add-one n))

  pub kept_more : (n : ℕ) (xs ys : List A) (x : A) → drop n xs ≡ drop n ys → drop (n + 1) (set xs n x) ≡ drop (n + 1) ys
  kept_more n xs ys x kept = drop-set-lt (n + 1) xs n x (omega arith) ∙ sym (drop-drop 1 n xs) ∙ ap (drop 1) kept ∙ drop-drop 1 n ys

  -- the first n places of ys are written, and what lies behind is kept
  pub is_over : (n : ℕ) (front xs ys : List A) → n ≤ length xs → front ≡ take n xs → drop n xs ≡ drop n ys → (length front ≡ n) × (xs ≡ over front ys)
  is_over n front xs ys h are kept =
      let long : length front ≡ n = ap length are ∙ length-take n xs ∙ omega arith in
      (long, sym (take-append-drop n xs) ∙ (λ i. sym are i ++ kept i) ∙ ap (λ (k : ℕ). front ++ drop k ys) (sym long))
