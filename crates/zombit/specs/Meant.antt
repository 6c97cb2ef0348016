-- What an opened index stands for, and what it says of its places, also of those of a short last block that lie past the last bay.
use Rattle.std.specs.Prelude.{◌≡◌, ℕ, suc, ◌+◌, ◌-◌, ◌*◌, ◌<◌, ◌≤◌, Bool, true, false, not, ◌&&◌, ◌⊎◌, List, Some, None, Option}
use Rattle.std.specs.Option.{option_map}
use Rattle.sets.specs.declared.Sort.{Sort}
use Rattle.sets.specs.declared.Sort.TheVariants.{Members, Others}
use Rattle.sets.specs.Made.{of_sort}
use Rattle.sets.specs.Search.{first_from, last_to}
use Rattle.bits.specs.Bits.{bit_at}
use Rattle.bits.specs.Words.{at_most}
use Rattle.zombit.specs.Blocks.{blocks_of, bits_before, bay_in, set_of}
use Rattle.zombit.specs.Lawful.{Place}
use Rattle.zombit.specs.declared.index.Zombit.{Zombit}
use Rattle.zombit.specs.declared.kind.Kind.{Kind}
use Rattle.zombit.specs.declared.kind.Kind.TheVariants.{All, Bare, Mixed}

abbrev pub U : Zombit → ℕ → Bool
U z = bit_at z.uniform.now

abbrev pub O : Zombit → ℕ → Bool
O z = bit_at z.marked.now

abbrev pub M : Zombit → ℕ → Bool
M z = bit_at z.mixed.now

-- the set that it stands for
abbrev pub meaning : Zombit → List Bool
meaning z = set_of z.blocks.last z.blocks.size z.uniform.now z.marked.now z.mixed.now

-- how many blocks, and how many places they have
abbrev pub blocks : Zombit → ℕ
blocks z = blocks_of z.blocks.last z.blocks.size

abbrev pub places : Zombit → ℕ
places z = blocks z * z.blocks.size

-- whether a place is a member, and whether it is of the sort
abbrev pub bays : Zombit → ℕ → Bool
bays z = bay_in z.blocks.size (U z) (O z) (M z)

abbrev pub sorted : Zombit → Sort → ℕ → Bool
sorted z sort = of_sort sort (bays z)

-- whether the block with bit k has a place of the sort: a member where O says so, a non-member unless it is uniform with a member
abbrev pub block_has : Zombit → Sort → ℕ → Bool
block_has z Members k = O z k
block_has z Others k = not (U z k && O z k)

-- block k is mixed
abbrev pub MixedAt : Zombit → ℕ → Type 0
MixedAt z k = U z (suc k) ≡ false

-- what block k is to a sort: all of it, none of it, or mixed
abbrev pub KindIs : Zombit → Sort → ℕ → Kind → Type 0
KindIs z sort k All = (j : ℕ) → Place z.blocks.size j → sorted z sort (k * z.blocks.size + j) ≡ true
KindIs z sort k Bare = (j : ℕ) → Place z.blocks.size j → sorted z sort (k * z.blocks.size + j) ≡ false
KindIs z sort k Mixed = MixedAt z k

-- how many bits of M lie before those of block k
abbrev pub bits_before_block : Zombit → ℕ → ℕ
bits_before_block z k = bits_before z.blocks.size (U z) k

-- bit q of M is one of those of block k
abbrev pub BitOf : Zombit → ℕ → ℕ → Type 0
BitOf z k q = (bits_before_block z k < q) × (q ≤ bits_before_block z k + z.blocks.size)

-- a place in block k: place at where all of the block is of the sort, none where none of it is, and where it is mixed the place of the
-- bit that was found in M
abbrev pub InBlock : Zombit → Sort → ℕ → ℕ → (Option ℕ → Type 0) → Option ℕ → Type 0
InBlock z sort k at Found r =
    (KindIs z sort k All × (r ≡ Some (k * z.blocks.size + at)))
    ⊎ ((KindIs z sort k Bare × (r ≡ None))
    ⊎ (MixedAt z k × (bit : Option ℕ) × Found bit × (r ≡ option_map (λ q. k * z.blocks.size + (q - bits_before_block z k)) bit)))

-- the first place of the sort from p on
abbrev pub first_place : Zombit → Sort → ℕ → Option ℕ
first_place z sort p = first_from (sorted z sort) p (suc (places z) - p)

-- what was found, unless it lies past the last bay
abbrev pub cut_at : ℕ → Option ℕ → Option ℕ
cut_at u None = None
cut_at u (Some q) = at_most u q

-- what was found from p to e is the first from p on; where nothing was, that is the first after e
abbrev pub FirstTo : Zombit → Sort → ℕ → ℕ → Option ℕ → Type 0
FirstTo z sort p e (Some q) = first_place z sort p ≡ Some q
FirstTo z sort p e None = first_place z sort p ≡ first_place z sort (suc e)

-- what was found after s and up to p is the last up to p; where nothing was, that is the last up to s
abbrev pub LastAfter : Zombit → Sort → ℕ → ℕ → Option ℕ → Type 0
LastAfter z sort s p (Some q) = last_to (sorted z sort) p ≡ Some q
LastAfter z sort s p None = last_to (sorted z sort) p ≡ last_to (sorted z sort) s
