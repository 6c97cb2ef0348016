-- The members of a set are written, those among 64 bays after the other.
use Rattle.std.proofs.Common.{◌≡◌, ℕ, zero, suc, ◌+◌, ◌-◌, ◌*◌, ◌<◌, ◌≤◌, Bool, true, false, List, [], ◌∷◌, ◌++◌, length, take, drop, sym, refl, ap, ◌∙◌, ⊎_elim, append_assoc, append-nil, drop-drop, arith, length-append, length-take}
use Rattle.std.proofs.Math.Seq.{take-append_seam, drop-append_seam}
use Rattle.std.proofs.lemmas.Bool.{cases_Bool, cases_lt}
use Rattle.std.proofs.lemmas.List.{take_all, drop_all, length-drop}
use Rattle.sets.specs.declared.Sort.TheVariants.{Members}
use Rattle.sets.specs.Lists.{over}
use Rattle.sets.specs.Sets.{is_member}
use Rattle.sets.proofs.Bays.{is_beyond, is_bay}
use Rattle.sets.proofs.Memory.{is_over}
use Rattle.bits.specs.Bits.{bit_at}
use Rattle.bits.specs.Words.{digit, Holds}
use Rattle.list.specs.Filling.{numbers_of}
use Rattle.list.specs.Words.{ones_after}
use Rattle.list.proofs.Listed.{passing_join}
use Rattle.list.proofs.Walked.{passing, passing_here, passing_on}

passing_agree : (f g : ℕ → Bool) (p n : ℕ) → ((i : ℕ) → p ≤ i → i < p + n → f i ≡ g i) → passing f p n ≡ passing g p n
passing_agree f g p zero same = refl
passing_agree f g p (suc n) same =
    let here = same p (omega arith) (omega arith) in
    let on = passing_agree f g (suc p) n (λ i l h. same i (omega arith) (omega arith)) in
    ⊎_elim
    (λ e. passing_here f p n e ∙ ap (λ xs. p ∷ xs) on ∙ sym (passing_here g p n (sym here ∙ e)))
    (λ e. passing_on f p n e ∙ on ∙ sym (passing_on g p n (sym here ∙ e)))
    (cases_Bool (f p))

passing_none : (f : ℕ → Bool) (p n : ℕ) → ((i : ℕ) → p ≤ i → i < p + n → f i ≡ false) → passing f p n ≡ []
passing_none f p zero none = refl
passing_none f p (suc n) none =
    passing_on f p n (none p (omega arith) (omega arith)) ∙ passing_none f (suc p) n (λ i l h. none i (omega arith) (omega arith))

-- the memory from place n on was written to
pub part_written : (n : ℕ) (memory part xs : List ℕ) → part ≡ over xs (take (length memory - n) (drop n memory))
    → take n memory ++ (part ++ drop (length memory - n) (drop n memory)) ≡ (take n memory ++ xs) ++ drop (n + length xs) memory
part_written n memory part xs e =
    let whole = take_all (length memory - n) (drop n memory) (omega (arith, length-drop n memory)) in
    let none = drop_all (length memory - n) (drop n memory) (omega (arith, length-drop n memory)) in
    let wrote : part ≡ xs ++ drop (n + length xs) memory = e ∙ ap (λ m. xs ++ drop (length xs) m) whole ∙ ap (λ m. xs ++ m) (drop-drop (length xs) n memory) in
    ap (λ m. take n memory ++ (part ++ m)) none ∙ ap (λ m. take n memory ++ m) (append-nil part ∙ wrote) ∙ sym (append_assoc (take n memory) xs (drop (n + length xs) memory))

module _ (s : List Bool) where
  -- the members behind the first 64 times k bays
  abbrev pub behind : ℕ → List ℕ
  behind k = passing (is_member s) (suc (64 * k)) (length s - 64 * k)

  -- those among the next 64 bays come first
  behind_more : (k : ℕ) → behind k ≡ passing (is_member s) (suc (64 * k)) 64 ++ behind (k + 1)
  behind_more k = ⊎_elim
      (λ part.
      let m = length s - 64 * k in
      let fill : m + (64 - m) ≡ 64 = omega arith in
      let none : length s - 64 * (k + 1) ≡ 0 = omega arith in
      let past = passing_none (is_member s) (suc (64 * k) + m) (64 - m) (λ i l h. is_beyond s Members i (omega arith)) in
      sym (append-nil (behind k)) ∙ ap (λ xs. behind k ++ xs) (sym past) ∙ sym (passing_join (is_member s) (suc (64 * k)) m (64 - m))
      ∙ ap (passing (is_member s) (suc (64 * k))) fill
      ∙ sym (append-nil _) ∙ ap (λ (n : ℕ). passing (is_member s) (suc (64 * k)) 64 ++ passing (is_member s) (suc (64 * (k + 1))) n) (sym none))
      (λ full.
      let split : length s - 64 * k ≡ 64 + (length s - 64 * (k + 1)) = omega arith in
      let at : suc (64 * k) + 64 ≡ suc (64 * (k + 1)) = omega arith in
      ap (passing (is_member s) (suc (64 * k))) split ∙ passing_join (is_member s) (suc (64 * k)) 64 (length s - 64 * (k + 1))
      ∙ ap (λ (q : ℕ). passing (is_member s) (suc (64 * k)) 64 ++ passing (is_member s) q (length s - 64 * (k + 1))) at)
      (cases_lt (length s) (64 * (k + 1)))

  -- 64 bits that tell of them
  module _ (row : List ℕ) (k w : ℕ) (tells : (i : ℕ) → 1 ≤ i → bit_at row i ≡ is_member s i) (held : Holds (bit_at row) (64 * k) 64 w) where
    told : (i : ℕ) → suc (64 * k) ≤ i → i < suc (64 * k) + 64 → digit w (i - suc (64 * k)) ≡ is_member s i
    told i l h =
        let same : suc (64 * k + (i - suc (64 * k))) ≡ i = omega arith in
        sym (held.place (i - suc (64 * k)) (omega arith)) ∙ ap (bit_at row) same ∙ tells i (omega arith)

    pub ones_told : ones_after w (64 * k) ≡ passing (is_member s) (suc (64 * k)) 64
    unfolding ones_after
    ones_told = passing_agree _ (is_member s) (suc (64 * k)) 64 told

    pub one_bay : (t : ℕ) → t < 64 → digit w t ≡ true → 64 * k + t < length s
    one_bay t l e = omega (arith, (is_bay s Members (suc (64 * k + t)) (sym (tells _ (omega arith)) ∙ held.place t l ∙ e)).1)

-- n members are written, and those behind the first 64 times k bays are to come
pub record Going (s : List Bool) (before : List ℕ) (n k : ℕ) (memory : List ℕ) : Type 0 where
  pub size : length memory ≡ length before
  pub room : n ≤ length memory
  pub wrote : numbers_of s ≡ take n memory ++ behind s k
  pub kept : drop n memory ≡ drop n before

module _ (s : List Bool) (before : List ℕ) where
  pub going_start : Going s before 0 0 before
  unfolding numbers_of
  going_start = record {
    size = refl;
    room = omega arith;
    wrote = let at : 1 ≡ suc (64 * 0) = omega arith in let all : length s ≡ length s - 64 * 0 = omega arith in λ i. passing (is_member s) (at i) (all i);
    kept = refl;
  }

  module _ (n k : ℕ) (memory : List ℕ) (g : Going s before n k memory) where
    pub going_end : length s ≤ 64 * k → memory ≡ over (numbers_of s) before
    going_end past =
        let none : length s - 64 * k ≡ 0 = omega arith in
        let all = g.wrote ∙ ap (λ (m : ℕ). take n memory ++ passing (is_member s) (suc (64 * k)) m) none ∙ append-nil (take n memory) in
        (is_over n (numbers_of s) memory before g.room all g.kept).1

    module _ (xs : List ℕ) (told : xs ≡ passing (is_member s) (suc (64 * k)) 64) where
      all : numbers_of s ≡ (take n memory ++ xs) ++ behind s (k + 1)
      all = g.wrote ∙ ap (λ m. take n memory ++ m) (behind_more s k ∙ ap (λ m. m ++ behind s (k + 1)) (sym told)) ∙ sym (append_assoc (take n memory) xs (behind s (k + 1)))

      front_long : length (take n memory ++ xs) ≡ n + length xs
      front_long = omega (arith, length-append (take n memory) xs, length-take n memory, g.room)

      pub fits : length (numbers_of s) ≤ length before → n + length xs ≤ length memory
      fits room = omega (arith, room, g.size, ap length all, length-append (take n memory ++ xs) (behind s (k + 1)), front_long)

      pub going_on : (memory' : List ℕ) → length (numbers_of s) ≤ length before
          → memory' ≡ (take n memory ++ xs) ++ drop (n + length xs) memory → Going s before (n + length xs) (k + 1) memory'
      going_on memory' room e = record {
        size = omega (arith, ap length e, length-append (take n memory ++ xs) (drop (n + length xs) memory), front_long, length-drop (n + length xs) memory, fits room, g.size);
        room = omega (arith, ap length e, length-append (take n memory ++ xs) (drop (n + length xs) memory), front_long);
        wrote = all ∙ ap (λ m. m ++ behind s (k + 1)) (sym (ap (take (n + length xs)) e ∙ ap (λ (m : ℕ). take m ((take n memory ++ xs) ++ drop (n + length xs) memory)) (sym front_long)
            ∙ take-append_seam (take n memory ++ xs) (drop (n + length xs) memory)));
        kept = ap (drop (n + length xs)) e ∙ ap (λ (m : ℕ). drop m ((take n memory ++ xs) ++ drop (n + length xs) memory)) (sym front_long)
            ∙ drop-append_seam (take n memory ++ xs) (drop (n + length xs) memory)
            ∙ sym (drop-drop (length xs) n memory) ∙ ap (drop (length xs)) g.kept ∙ drop-drop (length xs) n before;
      }
