-- Which bays are of a sort.
use Rattle.std.proofs.Common.{◌≡◌, ℕ, zero, suc, ◌-◌, ◌<◌, ◌≤◌, Bool, true, false, ◌&&◌, List, length, get_or, refl, ap, ◌∙◌, arith}
use Rattle.std.proofs.lemmas.Bool.{lt-ltb, le-ltb, ltb-true, and_parts}
use Rattle.sets.specs.declared.Sort.{Sort}
use Rattle.sets.specs.Sets.{is, fits}

pub is_beyond : (s : List Bool) (k : Sort) (i : ℕ) → length s < i → is s k i ≡ false
unfolding is
is_beyond s k zero h = refl
is_beyond s k (suc j) h = ap (λ b. b && fits k (get_or s j false)) (le-ltb j (length s) (omega arith))

pub is_none : (s : List Bool) (k : Sort) (i : ℕ) → i ≡ 0 → is s k i ≡ false
unfolding is
is_none s k zero h = refl
is_none s k (suc j) h = absurd (omega arith)

pub is_inside : (s : List Bool) (k : Sort) (i : ℕ) → 1 ≤ i → i ≤ length s → is s k i ≡ fits k (get_or s (i - 1) false)
unfolding is
is_inside s k zero h l = absurd (omega arith)
is_inside s k (suc j) h l =
    let same : j ≡ suc j - 1 = omega arith in
    ap (λ b. b && fits k (get_or s j false)) (lt-ltb j (length s) (omega arith)) ∙ ap (λ n. fits k (get_or s n false)) same

-- a bay of a sort stands in the garage
pub is_bay : (s : List Bool) (k : Sort) (i : ℕ) → is s k i ≡ true → (1 ≤ i) × (i ≤ length s)
unfolding is
is_bay s k zero h = absurd (let z : ◌≡◌ {A = ℕ} 0 1 = cc in omega arith)
is_bay s k (suc j) h = let l : j < length s = ltb-true j (length s) (and_parts _ _ h).0 in (omega arith, omega arith)
