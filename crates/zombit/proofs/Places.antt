-- Where a bay lies in its block, and how far the blocks reach.
use Rattle.std.proofs.Common.{◌≡◌, ℕ, suc, ◌+◌, ◌-◌, ◌*◌, ◌/◌, ◌%◌, ◌<◌, ◌≤◌, Bool, ap, ◌∙◌, ⊎_elim, suc-mul, mul_comm, le-div_iff_mul-le, zero-mul, arith}
use native.Mathlib.Nat.{div-add-mod, div-eq_of_lt-le}
use Rattle.std.proofs.lemmas.Bool.{cases_lt}
use Rattle.zombit.specs.Blocks.{blocks_of, in_block, bay_in}
use Rattle.zombit.specs.Lawful.{Place}

pub place : (β p : ℕ) → p / β * β + p % β ≡ p
place β p = let e = div-add-mod p β in let m = mul_comm β (p / β) in omega arith

pub block_at : (β k j : ℕ) → j < β → (k * β + j) / β ≡ k
block_at β k j h =
    let one : k + 1 ≡ suc k = omega arith in
    let up = suc-mul k β in
    div-eq_of_lt-le β (omega arith) (let e = ap (λ (x : ℕ). x * β) one in omega arith)

pub offset_at : (β k j : ℕ) → j < β → (k * β + j) % β ≡ j
offset_at β k j h =
    let e = place β (k * β + j) in
    let q = ap (λ (x : ℕ). x * β) (block_at β k j h) in
    omega arith

-- what the rows say of a place of block k
pub bay_in_block : (β k j : ℕ) (U O M : ℕ → Bool) → Place β j → bay_in β U O M (k * β + j) ≡ in_block β U O M k j
unfolding bay_in
bay_in_block β k j U O M p =
    let before : k * β + j - 1 ≡ k * β + (j - 1) = omega (arith, p.0) in
    let block = ap (λ (x : ℕ). x / β) before ∙ block_at β k (j - 1) (omega (arith, p.0, p.1)) in
    let offset = ap (λ (x : ℕ). x % β) before ∙ offset_at β k (j - 1) (omega (arith, p.0, p.1)) in
    let at : suc ((k * β + j - 1) % β) ≡ j = omega (arith, offset, p.0) in
    λ t. in_block β U O M (block t) (at t)

pub block_in : (u β k : ℕ) → 1 ≤ β → k * β < u → k < blocks_of u β
block_in u β k b h =
    let up = suc-mul k β in
    (le-div_iff_mul-le {k = β} {x = suc k} {y = u + (β - 1)} b).1 (omega arith)

pub block_of : (u β k : ℕ) → 1 ≤ β → k < blocks_of u β → k * β < u
block_of u β k b h =
    let up = suc-mul k β in
    let l = (le-div_iff_mul-le {k = β} {x = suc k} {y = u + (β - 1)} b).0 h in
    omega arith

pub blocks_reach : (u β : ℕ) → 1 ≤ β → blocks_of u β * β ≤ u + β
blocks_reach u β b = ⊎_elim
    (λ l.
    let n = blocks_of u β in
    let e : suc (n - 1) ≡ n = omega arith in
    let h = block_of u β (n - 1) b (omega arith) in
    let s = suc-mul (n - 1) β in
    let g = ap (λ (x : ℕ). x * β) e in
    omega arith)
    (λ g. let e : blocks_of u β ≡ 0 = omega arith in let f = ap (λ (x : ℕ). x * β) e in let m = zero-mul β in omega arith)
    (cases_lt 0 (blocks_of u β))

pub blocks_cover : (u β : ℕ) → 1 ≤ β → u ≤ blocks_of u β * β
blocks_cover u β b =
    ⊎_elim (λ l. absurd (let h = block_in u β (blocks_of u β) b l in omega arith)) (λ g. g) (cases_lt (blocks_of u β * β) u)
