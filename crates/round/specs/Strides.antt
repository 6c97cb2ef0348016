-- A sheet that has come to a bay amid a stretch.
use Rattle.std.specs.Prelude.{◌≡◌, ℕ, suc, ◌+◌, ◌-◌, ◌≤◌, min, Bool, true, false, cond, List, ◌++◌, length, take, drop}
use Rattle.bits.specs.Bits.{bit_at}
use Rattle.sets.specs.Packing.{pack, member_after}
use Rattle.sets.specs.Sets.{next_of}
use Rattle.sets.specs.declared.Sort.TheVariants.{Members}
use Rattle.strides.specs.declared.standing.Stance.{Stance}
use Rattle.round.specs.declared.state.Report.{Report}
use Rattle.round.specs.Machine.{end, stop, larger}
use Rattle.round.specs.Sheets.{Page, sheet_from}

-- the bits of a block of 8,192 bays from bay p on
abbrev pub block_of : List Bool → ℕ → ℕ → Bool
block_of s p = bit_at (pack 8192 (member_after s (p - 1)))

-- where the stretch that is under way at bay i ends, and i itself where one begins there
unfoldable pub ends_at : List Bool → List Bool → Stance → ℕ → ℕ
ends_at f c s i =
    cond s.fresh (min i (suc (end f c)))
    (cond s.in_free (stop (end f c) (next_of c Members i)) (cond s.in_class (stop (end f c) (next_of f Members i)) (larger f c i)))

-- bays and stretches before those of a page
abbrev pub onto : List ℕ → ℕ → Page → Page
onto bays n r = record { bays = bays ++ r.bays; place = r.place; stretches = n + r.stretches }

-- n bays of the sheet are written, and the round stands at s
pub record Going (f c : List Bool) (s₀ : Report) (out₀ : List ℕ) (n : ℕ) (s : Report) (out : List ℕ) : Type 0 where
  pub size : length out ≡ length out₀
  pub within : n ≤ length out₀
  pub wrote : sheet_from f c (length out₀) s₀.place ≡ onto (take n out) (s.stretches - s₀.stretches) (sheet_from f c (length out₀ - n) s.place)
  pub kept : drop n out ≡ drop n out₀
  pub many : s.handed ≡ s₀.handed + n
  pub grown : s₀.stretches ≤ s.stretches

-- what a stance can be: it says one thing or none
abbrev pub Sound : Stance → Type 0
Sound s = (s.fresh ≡ true → (s.in_free ≡ false) × (s.in_class ≡ false)) × (s.in_free ≡ true → s.in_class ≡ false)

-- so far a sheet from place p has come: before bay i it wrote n bays, and took t stretches, of which the last is that of the stance
pub record Paced (f c : List Bool) (p : ℕ) (out₀ : List ℕ) (i n t : ℕ) (s : Stance) (out : List ℕ) : Type 0 where
  pub size : length out ≡ length out₀
  pub within : n ≤ length out₀
  pub wrote : sheet_from f c (length out₀) p ≡ onto (take n out) t (sheet_from f c (length out₀ - n) (ends_at f c s i))
  pub kept : drop n out ≡ drop n out₀
  pub few : n ≤ t
  pub far : t + p ≤ ends_at f c s i
  pub low : p ≤ i
  pub most : i ≤ end f c + 64
  pub sound : Sound s
