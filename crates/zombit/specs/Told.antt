-- What each bit must be: the rows are lawful exactly if they tell the set that they stand for.
use Rattle.std.specs.Prelude.{◌≡◌, ℕ, suc, ◌+◌, ◌*◌, ◌<◌, Bool, true, false, ◌⊎◌, List}
use Rattle.sets.specs.Made.{set_by}
use Rattle.sets.specs.Sets.{is_member}
use Rattle.zombit.specs.Blocks.{blocks_of, bits_before, bay_in}
use Rattle.zombit.specs.Lawful.{BlockSize, Mixed, Place, LawfulO, LawfulM}

-- block k of the set is all members, or all non-members; past the last bay there are non-members
abbrev pub AllOf : List Bool → ℕ → ℕ → Bool → Type 0
AllOf s β k b = (j : ℕ) → Place β j → is_member s (k * β + j) ≡ b

-- U marks exactly the blocks that are all members or all non-members
abbrev pub UniformTold : ℕ → ℕ → List Bool → (ℕ → Bool) → Type 0
UniformTold u β s U =
    (k : ℕ) → k < blocks_of u β
    → (U (suc k) ≡ true → AllOf s β k true ⊎ AllOf s β k false) × (AllOf s β k true ⊎ AllOf s β k false → U (suc k) ≡ true)

-- O marks exactly the blocks with at least one member
abbrev pub MarkedTold : ℕ → ℕ → List Bool → (ℕ → Bool) → Type 0
MarkedTold u β s O = (k : ℕ) → k < blocks_of u β → (O (suc k) ≡ true → AllOf s β k false → ⊥) × ((AllOf s β k false → ⊥) → O (suc k) ≡ true)

-- M has the bays of each mixed block, in order
abbrev pub MixedTold : ℕ → ℕ → List Bool → (ℕ → Bool) → (ℕ → Bool) → Type 0
MixedTold u β s U M = (k : ℕ) → Mixed u β U k → (j : ℕ) → Place β j → M (bits_before β U k + j) ≡ is_member s (k * β + j)

abbrev pub Told : ℕ → ℕ → List Bool → (ℕ → Bool) → (ℕ → Bool) → (ℕ → Bool) → Type 0
Told u β s U O M = UniformTold u β s U × MarkedTold u β s O × MixedTold u β s U M

abbrev pub LawfulTold : Type 0
LawfulTold =
    (u β : ℕ) (U O M : ℕ → Bool) → BlockSize β
    → (LawfulO u β U O × LawfulM u β U M → Told u β (set_by u (bay_in β U O M)) U O M)
    × (Told u β (set_by u (bay_in β U O M)) U O M → LawfulO u β U O × LawfulM u β U M)
