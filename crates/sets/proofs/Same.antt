-- Two sets with one last bay and the same members are one set, and two rising lists of the same numbers are one list.
use Rattle.std.proofs.Common.{◌≡◌, ℕ, suc, ◌-◌, ◌<◌, ◌≤◌, Bool, false, List, [], ◌∷◌, length, get_or, sym, refl, ap, ◌∙◌, inl, inr, arith}
use Rattle.sets.specs.declared.Sort.TheVariants.{Members}
use Rattle.sets.specs.Lists.{Among, Rising}
use Rattle.sets.specs.Laws.{SetsByMembers}
use Rattle.sets.proofs.Bays.{is_inside}

rows_same : (s t : List Bool) → length s ≡ length t → ((j : ℕ) → j < length s → get_or s j false ≡ get_or t j false) → s ≡ t
rows_same [] [] e h = refl
rows_same [] (b ∷ t) e h = absurd (omega arith)
rows_same (a ∷ s) [] e h = absurd (omega arith)
rows_same (a ∷ s) (b ∷ t) e h =
    let first = h 0 (omega arith) in
    let others = rows_same s t (omega arith) (λ j l. h (suc j) (omega arith)) in
    λ i. first i ∷ others i

pub sets_by_members : SetsByMembers
sets_by_members s t e h = rows_same s t e (λ j l.
    let same : suc j - 1 ≡ j = omega arith in
    sym (ap (λ n. get_or s n false) same)
    ∙ sym (is_inside s Members (suc j) (omega arith) (omega arith))
    ∙ h (suc j)
    ∙ is_inside t Members (suc j) (omega arith) (omega arith)
    ∙ ap (λ n. get_or t n false) same)

rising_from : (p : ℕ) (xs : List ℕ) (j : ℕ) → Rising p xs → Among xs j → p ≤ j
rising_from p [] j r m = absurd m
rising_from p (x ∷ xs) j r (inl e) = omega (arith, r.0)
rising_from p (x ∷ xs) j r (inr m) = omega (arith, r.0, rising_from (suc x) xs j r.1 m)

-- a number of the second list is behind its first
behind : (x : ℕ) (ys : List ℕ) (j : ℕ) → suc x ≤ j → Among (x ∷ ys) j → Among ys j
behind x ys j l (inl e) = absurd (omega arith)
behind x ys j l (inr m) = m

first_least : (x y : ℕ) (ys : List ℕ) → Rising (suc y) ys → Among (y ∷ ys) x → y ≤ x
first_least x y ys r (inl e) = omega arith
first_least x y ys r (inr m) = omega (arith, rising_from (suc y) ys x r m)

pub lists_same : (p q : ℕ) (xs ys : List ℕ) → Rising p xs → Rising q ys → ((j : ℕ) → Among xs j → Among ys j) → ((j : ℕ) → Among ys j → Among xs j) → xs ≡ ys
lists_same p q [] [] r t f g = refl
lists_same p q [] (y ∷ ys) r t f g = absurd (g y (inl refl))
lists_same p q (x ∷ xs) [] r t f g = absurd (f x (inl refl))
lists_same p q (x ∷ xs) (y ∷ ys) r t f g =
    let low = first_least x y ys t.1 (f x (inl refl)) in
    let high = first_least y x xs r.1 (g y (inl refl)) in
    let same : x ≡ y = omega arith in
    let more = lists_same (suc x) (suc y) xs ys r.1 t.1
    (λ j m. behind y ys j (omega (arith, rising_from (suc x) xs j r.1 m)) (f j (inr m)))
    (λ j m. behind x xs j (omega (arith, rising_from (suc y) ys j t.1 m)) (g j (inr m))) in
    λ i. same i ∷ more i
