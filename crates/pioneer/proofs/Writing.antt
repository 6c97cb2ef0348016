-- The two parts, written 64 bits at a time.
use Rattle.std.proofs.Common.{◌≡◌, ℕ, zero, suc, ◌+◌, ◌-◌, ◌*◌, ◌/◌, ◌%◌, ◌^◌, ◌<◌, ◌≤◌, Bool, true, false, not, ◌&&◌, ◌||◌, eqb, List, ◌++◌, length, drop, length-append, length-drop, sym, refl, ap, ◌∙◌, subst, ⊎_elim, arith, bit_and, bit_or}
use Rattle.std.specs.Int.Count.{ones}
use Rattle.std.proofs.lemmas.Bool.{cases_Bool, cases_lt, both_ways, and_parts, and_left}
use lib.Count.{count_trailing_zeros}
use Rattle.bits.specs.Bits.{bit_at}
use Rattle.bits.specs.Rows.{first_bits}
use Rattle.bits.specs.Words.{Holds}
use Rattle.bits.proofs.Bytes.{bit_past}
use Rattle.bits.proofs.Digits.{front_mask}
use Rattle.bits.proofs.Held.{others_held, count_part}
use Rattle.bits.proofs.Packing.{packs, packs_only}
use Rattle.bits.proofs.Rows.{row_put, row_kept, row_none, row_all}
use Rattle.bits.proofs.Values.{held_same}
use Rattle.sets.specs.declared.Sort.TheVariants.{Members}
use Rattle.sets.specs.Lists.{over}
use Rattle.sets.specs.Packing.{digit_of, bytes_for, pack, member_after}
use Rattle.sets.specs.Search.{count_to}
use Rattle.sets.specs.Sets.{is_member, rank_of}
use Rattle.sets.proofs.Bays.{is_none, is_beyond}
use Rattle.sets.proofs.Only.{rank_beyond}
use Rattle.sets.proofs.Packing.{pack_length}
use Rattle.sets.proofs.Tests.{count_agree, count_at, count_mono}
use Rattle.pioneer.specs.Filling.{count_of, begins, ends, starts_part, sums_part}
use Rattle.pioneer.specs.Packed.{FrontHolds}
use Rattle.pioneer.specs.Written.{TellsBays, SumsTo}
use Rattle.pioneer.proofs.Members.{rank_none, rank_past, next_member}
use Rattle.pioneer.proofs.Packed.{all_front}
use Rattle.pioneer.proofs.Stretches.{both_held, shift_held}
use Rattle.pioneer.proofs.Taking.{past, past_in, first, parts, whole_held, rest_none, at_within, taken}

-- ---- the bits of the bays

module _ (s : List Bool) (row : List ℕ) where
  pub tells_packed : (n : ℕ) → n ≡ bytes_for (length s) → row ≡ pack (8 * n) (member_after s 0) → TellsBays s row
  tells_packed n long e =
      let law = packs (8 * n) (member_after s 0) in (
        ap length e ∙ pack_length (8 * n) (member_after s 0) ∙ omega (arith, long),
        λ i l.
            let here : 0 + i ≡ i = omega arith in
            ap (λ b. bit_at b i) e
            ∙ ⊎_elim (λ beyond. law.1 i beyond ∙ sym (is_beyond s Members i (omega (arith, long)))) (λ within. law.3 i l within ∙ ap (is_member s) here) (cases_lt (8 * n) i),
      )

  module _ (tells : TellsBays s row) where
    pub tells_held : (p x : ℕ) → Holds (bit_at row) p 64 x → Holds (is_member s) p 64 x
    tells_held p x h = held_same (bit_at row) (is_member s) p 64 x (λ i low high. tells.1 i (omega arith)) h

    pub tells_rank : (i : ℕ) → count_to (bit_at row) i ≡ rank_of s Members i
    unfolding rank_of
    tells_rank i = count_agree (bit_at row) (is_member s) i (λ j l h. tells.1 j l)

    pub tells_count : count_to (bit_at row) (8 * length row) ≡ count_of s
    tells_count = tells_rank (8 * length row) ∙ rank_beyond s Members (8 * length row) (omega (arith, tells.0))

-- ---- the first bays of the runs

module _ (s : List Bool) where
  -- of 64 bays, and the one before them
  pub begins_held : (w x carry : ℕ) → Holds (is_member s) (64 * w) 64 x → carry ≡ digit_of (is_member s (64 * w))
      → Holds (begins s) (64 * w) 64 (bit_and x (2 ^ 64 - 1 - bit_or (x * 2 ^ 1 % 2 ^ 64) carry))
  begins_held w x carry h e =
      both_held (is_member s) (64 * w) x h (λ i. not (is_member s (i - 1))) _
      (others_held (λ i. is_member s (i - 1)) (64 * w) 64 _ (shift_held (is_member s) (64 * w) x h carry e))

  pub none_before : 0 ≡ digit_of (is_member s (64 * 0))
  none_before = ap digit_of (sym (is_none s Members (64 * 0) (omega arith)))

  pub over_starts : (n k : ℕ) (front starts : List ℕ) → n ≡ bytes_for (length s) → length front ≡ n → n ≤ k → FrontHolds (begins s) k front → front ++ drop n starts ≡ over (starts_part s) starts
  over_starts n k front starts e long all holds =
      let u = length s in
      let law = packs (8 * n) (begins s) in
      let clear : (i : ℕ) → u < i → bit_at (pack (8 * n) (begins s)) i ≡ false = λ i l. ⊎_elim
      (λ beyond. law.1 i beyond)
      (λ within. law.3 i (omega arith) within ∙ and_left _ _ (is_beyond s Members i l))
      (cases_lt (8 * n) i) in
      let fewer : pack (8 * n) (begins s) ≡ starts_part s = packs_only u (begins s) (pack (8 * n) (begins s)) (
        law.0 ∙ omega (arith, e),
        clear,
        law.2,
        λ i l h. law.3 i l (omega (arith, e)),
      ) in
      ap (λ f. f ++ drop n starts) (all_front (begins s) k n front long all holds ∙ fewer)
      ∙ ap (λ (m : ℕ). starts_part s ++ drop m starts) (e ∙ sym (pack_length u (begins s)))

-- ---- the sums of the run lengths

-- the last bay of a run
abbrev pub last_in : (ℕ → Bool) → ℕ → Bool
last_in f i = f i && not (f (suc i))

pub last_held : (f : ℕ → Bool) (w x y : ℕ) → Holds f (64 * w) 64 x → Holds f (64 * w + 1) 64 y → Holds (last_in f) (64 * w) 64 (bit_and x (2 ^ 64 - 1 - y))
last_held f w x y h k =
    let next : Holds (λ i. f (suc i)) (64 * w) 64 y = record {
      small = k.small;
      place = λ s l. let on : suc (suc (64 * w + s)) ≡ suc (64 * w + 1 + s) = omega arith in ap f on ∙ k.place s l;
    } in
    both_held f (64 * w) x h (λ i. not (f (suc i))) _ (others_held (λ i. f (suc i)) (64 * w) 64 y next)

module _ (s : List Bool) (old : List ℕ) where
  sums_more : (i : ℕ) (bytes : List ℕ) → last_in (is_member s) (suc i) ≡ false → SumsTo s old i bytes → SumsTo s old (suc i) bytes
  sums_more i bytes none to =
      let n = count_of s in
      let before : suc i - 1 ≡ i = omega arith in
      ⊎_elim
      (λ m.
      let on : suc i + 1 ≡ suc (suc i) = omega arith in
      let next = next_member s (suc i) (rank_of s Members i) (omega arith) (sym (ap (rank_of s Members) before)) (sym m) in
      let follows : not (is_member s (suc (suc i))) ≡ false = sym (ap (λ b. b && not (is_member s (suc (suc i)))) m) ∙ none in
      row_kept n (rank_of s Members i) (rank_of s Members (suc i)) (rank_of s Members (suc i)) (ends s) old bytes (sym next.0) refl
      (ap (ends s) (sym next.0) ∙ next.1 ∙ ap (λ (j : ℕ). not (is_member s j)) on ∙ follows) to)
      (λ m.
      let same : rank_of s Members i ≡ rank_of s Members (suc i) = ap (rank_of s Members) (sym before) ∙ rank_past s (suc i) (omega arith) (sym m) in
      to ∙ ap (λ (k : ℕ). over (pack n (first_bits k (ends s))) old) same)
      (cases_Bool (is_member s (suc i)))

  sums_by : (d i : ℕ) (bytes : List ℕ) → ((j : ℕ) → i < j → j ≤ i + d → last_in (is_member s) j ≡ false) → SumsTo s old i bytes → SumsTo s old (i + d) bytes
  sums_by zero i bytes none to = let same : i ≡ i + zero = omega arith in subst (λ j. SumsTo s old j bytes) same to
  sums_by (suc d) i bytes none to =
      let on : suc (i + d) ≡ i + suc d = omega arith in
      subst (λ j. SumsTo s old j bytes) on (sums_more (i + d) bytes (none (suc (i + d)) (omega arith) (omega arith)) (sums_by d i bytes (λ j l h. none j l (omega arith)) to))

  -- where no run ends the sums stay
  pub sums_stay : (i j : ℕ) (bytes : List ℕ) → i ≤ j → ((k : ℕ) → i < k → k ≤ j → last_in (is_member s) k ≡ false) → SumsTo s old i bytes → SumsTo s old j bytes
  sums_stay i j bytes l none to =
      let at : i + (j - i) ≡ j = omega arith in
      subst (λ k. SumsTo s old k bytes) at (sums_by (j - i) i bytes (λ k a b. none k a (omega arith)) to)

  -- and where one does the number of the member is put
  pub sums_put : (i a : ℕ) (bytes new : List ℕ) → suc i ≡ a → last_in (is_member s) a ≡ true → SumsTo s old i bytes
      → new ≡ over (pack (count_of s) (λ j. eqb j (rank_of s Members a) || first_bits (rank_of s Members i) (ends s) j)) old → SumsTo s old a new
  sums_put i a bytes new e last to is =
      let both : (is_member s a ≡ true) × (not (is_member s (suc a)) ≡ true) = and_parts _ _ last in
      let before : a - 1 ≡ i = omega arith in
      let on : a + 1 ≡ suc a = omega arith in
      let next = next_member s a (rank_of s Members i) (omega arith) (sym (ap (rank_of s Members) before)) (sym both.0) in
      row_put (count_of s) (rank_of s Members i) (rank_of s Members a) (rank_of s Members a) (ends s) old new (sym next.0) refl
      (ap (ends s) (sym next.0) ∙ next.1 ∙ ap (λ (j : ℕ). not (is_member s j)) on ∙ both.1) is

  pub sums_none : (n : ℕ) (bytes : List ℕ) → n ≡ count_of s → bytes ≡ over (pack n (λ i. false)) old → SumsTo s old 0 bytes
  sums_none n bytes e is =
      is ∙ ap (λ (m : ℕ). over (pack m (λ i. false)) old) e ∙ ap (λ x. over x old) (row_none (count_of s) (ends s))
      ∙ ap (λ (k : ℕ). over (pack (count_of s) (first_bits k (ends s))) old) (rank_none s)

  pub sums_all : (i : ℕ) (bytes : List ℕ) → length s ≤ i → SumsTo s old i bytes → bytes ≡ over (sums_part s) old
  sums_all i bytes l to =
      let all = rank_beyond s Members i l in
      to ∙ ap (λ x. over x old) (row_all (count_of s) (rank_of s Members i) (ends s) (omega (arith, all)))

-- ---- the ends of the runs among 64 bays

module _ (row : List ℕ) (base : ℕ) where
  -- those up to bay `at` have been seen
  pub record Ending (start sums : List ℕ) (left : ℕ) : Type 0 where
    pub at : ℕ
    pub low : base ≤ at
    pub high : at ≤ base + 64
    pub ends : Holds (past (last_in (bit_at row)) at) base 64 left
    pub long : length sums ≡ length start
    pub upto : (s : List Bool) (old : List ℕ) → TellsBays s row → bytes_for (count_of s) ≤ length old → SumsTo s old base start → SumsTo s old at sums

  last_tells : (s : List Bool) → TellsBays s row → (i : ℕ) → 1 ≤ i → last_in (bit_at row) i ≡ last_in (is_member s) i
  last_tells s tells i l t = tells.1 i l t && not (tells.1 (suc i) (omega arith) t)

  pub ending_first : (sums : List ℕ) (left : ℕ) → Holds (last_in (bit_at row)) base 64 left → Ending sums sums left
  ending_first sums left h = record {
    at = base;
    low = omega arith;
    high = omega arith;
    ends = whole_held (last_in (bit_at row)) base base left (omega arith) h;
    long = refl;
    upto = λ s old tells room to. to;
  }

  pub ending_last : (start sums : List ℕ) (left : ℕ) → left ≡ 0 → Ending start sums left
      → (s : List Bool) (old : List ℕ) → TellsBays s row → bytes_for (count_of s) ≤ length old → SumsTo s old base start → SumsTo s old (base + 64) sums
  ending_last start sums left z e s old tells room to =
      let none = rest_none (last_in (bit_at row)) base e.at left z e.low e.ends in
      sums_stay s old e.at (base + 64) sums e.high (λ k a b. sym (last_tells s tells k (omega arith)) ∙ none k a b) (e.upto s old tells room to)

  module _ (start sums : List ℕ) (left : ℕ) (e : Ending start sums left) (some : 0 < left) where
    abbrev f : ℕ → Bool
    f = last_in (bit_at row)

    abbrev zeros : ℕ
    zeros = count_trailing_zeros 64 left

    abbrev end : ℕ
    end = base + 1 + zeros

    place : (e.at < end) × (f end ≡ true)
    place = parts f base e.at left e.ends some

    member : bit_at row end ≡ true
    member = (and_parts (bit_at row end) (not (bit_at row (suc end))) place.1).0

    within : end ≤ 8 * length row
    within = ⊎_elim (λ beyond. absurd (both_ways _ (bit_past row end beyond) member)) (λ l. l) (cases_lt (8 * length row) end)

    -- its number
    pub end_number : (members before k : ℕ) → Holds (bit_at row) base 64 members → before ≡ count_to (bit_at row) base → k ≡ ones (bit_and members ((2 ^ 64 - 1) / 2 ^ (63 - zeros))) → before + k ≡ count_to (bit_at row) end
    end_number members before k held e' is =
        let low : zeros < 64 = omega (arith, at_within f base e.at left e.ends some) in
        let front = ap ones (front_mask members 64 (63 - zeros) (zeros + 1) (omega arith)) in
        let at : base + (zeros + 1) ≡ end = omega arith in
        omega (arith, e', is, front, count_part (bit_at row) base 64 members (zeros + 1) held (omega arith), ap (count_to (bit_at row)) at)

    pub end_some : 1 ≤ count_to (bit_at row) end
    end_some = omega (arith, count_at (bit_at row) end (omega arith) member)

    pub end_most : count_to (bit_at row) end ≤ count_to (bit_at row) (8 * length row)
    end_most = count_mono (bit_at row) end (8 * length row) within

    pub ending_next : (k : ℕ) (new : List ℕ) → k ≡ count_to (bit_at row) end → length new ≡ length sums
        → ((n : ℕ) (g : ℕ → Bool) (old : List ℕ) → k ≤ n → sums ≡ over (pack n g) old → bytes_for n ≤ length old → new ≡ over (pack n (λ j. eqb j k || g j)) old)
        → Ending start new (bit_and left (left - 1))
    ending_next k new is same put = record {
      at = end;
      low = omega (arith, e.low, place.0);
      high = at_within f base e.at left e.ends some;
      ends = taken f base e.at left e.ends some;
      long = same ∙ e.long;
      upto = λ s old tells room to.
          let number : k ≡ rank_of s Members end = is ∙ tells_rank s row tells end in
          let stay = sums_stay s old e.at (end - 1) sums (omega (arith, place.0)) (λ j a b.
          sym (last_tells s tells j (omega arith)) ∙ sym (past_in f e.at j a) ∙ (first f base e.at left e.ends some).1 j (omega (arith, e.low)) b) (e.upto s old tells room to) in
          sums_put s old (end - 1) end sums new (omega arith) (sym (last_tells s tells end (omega arith)) ∙ place.1) stay
          (put (count_of s) _ old (omega (arith, is, end_most, tells_count s row tells)) stay room
          ∙ ap (λ (m : ℕ). over (pack (count_of s) (λ j. eqb j m || first_bits (rank_of s Members (end - 1)) (ends s) j)) old) number);
    }

-- clearing keeps the length of the memory
pub none_long : (n : ℕ) (old bytes : List ℕ) → bytes_for n ≤ length old → bytes ≡ over (pack n (λ i. false)) old → length bytes ≡ length old
none_long n old bytes room is =
    let front = pack n (λ i. false) in
    ap length is ∙ omega (arith, length-append front (drop (length front) old), length-drop (length front) old, pack_length n (λ i. false))
