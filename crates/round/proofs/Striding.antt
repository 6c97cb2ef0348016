-- Bays that are passed as bits.
use Rattle.std.proofs.Common.{◌≡◌, ℕ, zero, suc, ◌+◌, ◌-◌, ◌<◌, ◌≤◌, min, Bool, true, false, cond, ◌&&◌, List, [], ◌∷◌, ◌++◌, length, take, drop, refl, sym, ap, ◌∙◌, subst, ⊎_elim, arith, append_assoc, take-append-drop, length-append, length-take, length-drop}
use Rattle.std.proofs.lemmas.Bool.{cases_lt}
use borrow.Rule.Slice.PartMut.{mid_of, put_mid}
use lib.Seq.{take-append_seam, drop-append_seam}
use Rattle.bits.proofs.Packing.{packs}
use Rattle.sets.specs.Lists.{over}
use Rattle.sets.specs.Packing.{member_after}
use Rattle.sets.specs.Search.{count_to}
use Rattle.sets.proofs.Tests.{count_none}
use Rattle.strides.specs.declared.passed.Passed.{Passed}
use Rattle.strides.proofs.Numbering.{numbered_none}
use Rattle.strides.proofs.Going.{over_on}
use Rattle.sets.specs.Sets.{is_member}
use Rattle.strides.specs.declared.standing.Stance.{Stance}
use Rattle.strides.specs.Passage.{Passage}
use Rattle.strides.specs.Strides.{numbered, both, last_alone, begins, after}
use Rattle.round.specs.Machine.{end, common}
use Rattle.round.specs.Sheets.{sheet_from}
use Rattle.round.specs.Strides.{block_of, ends_at, onto, Sound, Paced}
use Rattle.round.proofs.Bay.{next_stance, begun, sound_next, moves_by, Taken, taken_by, taken_past, common_past}

after_none : (F C : ℕ → Bool) (s : Stance) → after F C s 0 ≡ s
unfolding after last_alone
after_none F C s = refl

after_more : (F C : ℕ → Bool) (s : Stance) (n : ℕ) → after F C s (suc n) ≡ next_stance (after F C s n) (F (suc n)) (C (suc n))
unfolding after last_alone
after_more F C s n = refl

begins_more : (F C : ℕ → Bool) (s : Stance) (n : ℕ) → begins F C s (suc n) ≡ begun (after F C s n) (F (suc n)) (C (suc n))
unfolding begins after
begins_more F C s n = refl

count_more : (g : ℕ → Bool) (n : ℕ) → count_to g (suc n) ≡ cond (g (suc n)) 1 0 + count_to g n
unfolding count_to
count_more g n = refl

numbered_more : (g : ℕ → Bool) (first n : ℕ) → numbered g first (suc n) ≡ numbered g first n ++ cond (g (suc n)) ((first + n) ∷ []) []
unfolding numbered
numbered_more g first n = refl

one_long : (b : Bool) (x : ℕ) → length (cond b (x ∷ []) []) ≡ cond b 1 0
one_long true x = refl
one_long false x = refl

-- F and C are the bits of the bays from p on
module _ (f c : List Bool) (F C : ℕ → Bool) (s : Stance) (p : ℕ) (sound : Sound s) where
  abbrev bays : ℕ → List ℕ
  bays n = numbered (both F C) p n

  abbrev starts : ℕ → ℕ
  starts n = count_to (begins F C s) (min n (suc (end f c) - p))

  -- n bays are passed
  pub record Strode (r n : ℕ) : Type 0 where
    pub sound' : Sound (after F C s n)
    pub few : length (bays n) ≤ starts n
    pub far : starts n + ends_at f c s p ≤ ends_at f c (after F C s n) (p + n)
    pub wrote : sheet_from f c r (ends_at f c s p) ≡ onto (bays n) (starts n) (sheet_from f c (r - length (bays n)) (ends_at f c (after F C s n) (p + n)))

  -- one more
  strode_more : (r n : ℕ) (handed start : Bool) → both F C (suc n) ≡ handed → starts (suc n) ≡ cond start 1 0 + starts n
      → Taken f c (r - length (bays n)) (p + n) (ends_at f c (after F C s n) (p + n)) (ends_at f c (after F C s (suc n)) (suc (p + n))) handed start
      → Sound (after F C s (suc n)) → Strode r n → Strode r (suc n)
  strode_more r n handed start eh es t sound' w =
      let one = cond handed ((p + n) ∷ []) [] in
      let more : bays (suc n) ≡ bays n ++ one = numbered_more (both F C) p n ∙ ap (λ (b : Bool). bays n ++ cond b ((p + n) ∷ []) []) eh in
      let long : length (bays (suc n)) ≡ length (bays n) + cond handed 1 0 =
      ap length more ∙ length-append (bays n) one ∙ ap (λ (k : ℕ). length (bays n) + k) (one_long handed (p + n)) in
      let left : r - length (bays n) - cond handed 1 0 ≡ r - length (bays (suc n)) = omega (arith, long) in
      let at : suc (p + n) ≡ p + suc n = omega arith in
      let m = ends_at f c (after F C s (suc n)) in
      let page = sheet_from f c (r - length (bays n) - cond handed 1 0) (m (suc (p + n))) in
      let sum : starts n + (cond start 1 0 + page.stretches) ≡ starts (suc n) + page.stretches = omega (arith, es) in
      let joined : bays n ++ (one ++ page.bays) ≡ bays (suc n) ++ page.bays = sym (append_assoc (bays n) one page.bays) ∙ ap (λ (xs : List ℕ). xs ++ page.bays) (sym more) in
      record {
        sound' = sound';
        few = omega (arith, long, es, w.few, t.few);
        far = omega (arith, es, w.far, t.far, ap m at);
        wrote = w.wrote ∙ ap (onto (bays n) (starts n)) t.sheet
            ∙ (λ j. record { bays = joined j; place = page.place; stretches = sum j })
            ∙ (λ j. onto (bays (suc n)) (starts (suc n)) (sheet_from f c (left j) (m (at j))));
      }

  strode_none : (r : ℕ) → Strode r 0
  strode_none r =
      let none = after_none F C s in
      let no_bays : bays 0 ≡ [] = numbered_none (both F C) p in
      let no_starts : starts 0 ≡ 0 = (let e : min 0 (suc (end f c) - p) ≡ 0 = omega arith in ap (count_to (begins F C s)) e) ∙ count_none (begins F C s) in
      let at : p ≡ p + 0 = omega arith in
      let all : r ≡ r - length (bays 0) = omega (arith, ap length no_bays) in
      let same : ends_at f c s p ≡ ends_at f c (after F C s 0) (p + 0) = λ i. ends_at f c (sym none i) (at i) in
      let page = sheet_from f c (r - length (bays 0)) (ends_at f c (after F C s 0) (p + 0)) in
      let sum : page.stretches ≡ starts 0 + page.stretches = omega (arith, no_starts) in
      record {
        sound' = subst Sound (sym none) sound;
        few = omega (arith, no_starts, ap length no_bays);
        far = omega (arith, no_starts, same);
        wrote = (λ i. sheet_from f c (all i) (same i)) ∙ (λ i. record { bays = sym no_bays i ++ page.bays; place = page.place; stretches = sum i });
      }

  pub strode : (r n : ℕ) → ((j : ℕ) → j < n → F (suc j) ≡ is_member f (p + j)) → ((j : ℕ) → j < n → C (suc j) ≡ is_member c (p + j))
      → ((j : ℕ) → j < n → length (bays j) < r) → Strode r n
  unfolding common
  strode r zero hf hc room = strode_none r
  strode r (suc n) hf hc room =
      let w = strode r n (λ j l. hf j (omega arith)) (λ j l. hc j (omega arith)) (λ j l. room j (omega arith)) in
      let first = hf n (omega arith) in
      let second = hc n (omega arith) in
      let s' = after F C s n in
      let i = p + n in
      let a = is_member f i in
      let b = is_member c i in
      let left : 1 ≤ r - length (bays n) = omega (arith, room n (omega arith)) in
      let on : after F C s (suc n) ≡ next_stance s' a b = after_more F C s n ∙ (λ j. next_stance s' (first j) (second j)) in
      let sound'' : Sound (after F C s (suc n)) = subst Sound (sym on) (sound_next s' a b w.sound') in
      ⊎_elim
      (λ past.
      let none : both F C (suc n) ≡ false = both_common n first second ∙ common_past f c i past in
      let same : starts (suc n) ≡ 0 + starts n =
      (let e : min (suc n) (suc (end f c) - p) ≡ min n (suc (end f c) - p) = omega (arith, past) in ap (count_to (begins F C s)) e) ∙ omega arith in
      strode_more r n false false none same (taken_past f c (r - length (bays n)) i s' (after F C s (suc n)) past) sound'' w)
      (λ within.
      let start = begun s' a b in
      let upto : min (suc n) (suc (end f c) - p) ≡ suc n = omega (arith, within) in
      let before : min n (suc (end f c) - p) ≡ n = omega (arith, within) in
      let count : starts (suc n) ≡ cond start 1 0 + starts n =
      ap (count_to (begins F C s)) upto ∙ count_more (begins F C s) n
      ∙ (λ j. cond ((begins_more F C s n ∙ (λ k. begun s' (first k) (second k))) j) 1 0 + count_to (begins F C s) (sym before j)) in
      let t = taken_by f c (r - length (bays n)) i (ends_at f c s' i) (ends_at f c (next_stance s' a b) (suc i)) (a && b) start left within (common_is i)
      (moves_by f c i within a b refl refl s' w.sound') in
      strode_more r n (a && b) start (λ j. first j && second j) count
      (subst (λ (x : Stance). Taken f c (r - length (bays n)) i (ends_at f c s' i) (ends_at f c x (suc i)) (a && b) start) (sym on) t) sound'' w)
      (cases_lt (end f c) i)
    where
      common_is : (i : ℕ) → common f c i ≡ (is_member f i && is_member c i)
      common_is i = refl

      both_common : (n : ℕ) → F (suc n) ≡ is_member f (p + n) → C (suc n) ≡ is_member c (p + n) → both F C (suc n) ≡ common f c (p + n)
      both_common n first second = λ j. first j && second j

-- the bits of a block are those of its bays
pub block_bit : (s : List Bool) (p j : ℕ) → 1 ≤ p → j < 8192 → block_of s p (suc j) ≡ is_member s (p + j)
block_bit s p j one l =
    let at : p - 1 + suc j ≡ p + j = omega arith in
    (packs 8192 (member_after s (p - 1))).3 (suc j) (omega arith) (omega arith) ∙ ap (is_member s) at

-- ---- the pace

module _ (f c : List Bool) (p : ℕ) (out₀ : List ℕ) where
  pub paced_start : p ≤ suc (end f c) → Paced f c p out₀ p 0 0 (record { fresh = true; in_free = false; in_class = false }) out₀
  unfolding ends_at
  paced_start within =
      let at : p ≡ min p (suc (end f c)) = omega arith in
      let page = sheet_from f c (length out₀ - 0) (min p (suc (end f c))) in
      let sum : page.stretches ≡ 0 + page.stretches = omega arith in
      let all : length out₀ ≡ length out₀ - 0 = omega arith in
      record {
        size = refl;
        within = omega arith;
        wrote = (λ i. sheet_from f c (all i) (at i)) ∙ (λ i. record { bays = page.bays; place = page.place; stretches = sum i });
        kept = refl;
        few = omega arith;
        far = omega arith;
        low = omega arith;
        most = omega arith;
        sound = (λ e. (refl, refl), λ e. refl);
      }

  pub paced_on : (i n t : ℕ) (s : Stance) (out : List ℕ) (v : Passed) (new : List ℕ) (k : ℕ) → 1 ≤ i → i ≤ end f c → Paced f c p out₀ i n t s out → k ≡ length out - n
      → Passage (block_of f i) (block_of c i) s i (min (suc (end f c) - i) 8192) (mid_of n k out) v new
      → Paced f c p out₀ (i + v.bits) (n + v.written) (t + v.starts) v.stance (put_mid n k out new)
  paced_on i n t s out v new k one inside g e v' =
      let block : v.bits ≤ 8192 = omega (arith, v'.most, v'.words) in
      let upto : min v.bits (min (suc (end f c) - i) 8192) ≡ min v.bits (suc (end f c) - i) = omega (arith, block) in
      let starts : v.starts ≡ count_to (begins (block_of f i) (block_of c i) s) (min v.bits (suc (end f c) - i)) =
      v'.starts ∙ ap (count_to (begins (block_of f i) (block_of c i) s)) upto in
      let F = block_of f i in
      let C = block_of c i in
      let more = numbered (both F C) i v.bits in
      let r = length out₀ - n in
      let long : length (mid_of n k out) ≡ r = length-take k (drop n out) ∙ omega (arith, length-drop n out, e, g.size) in
      let w : Strode f c F C s i g.sound r v.bits =
      strode f c F C s i g.sound r v.bits (λ j l. block_bit f i j one (omega arith)) (λ j l. block_bit c i j one (omega arith)) (λ j l. omega (arith, v'.room j l, long)) in
      let front : length (take n out) ≡ n = length-take n out ∙ omega (arith, g.within, g.size) in
      let before : out ≡ over (take n out) out₀ = sym (take-append-drop n out) ∙ (λ j. take n out ++ g.kept j) ∙ ap (λ (m : ℕ). take n out ++ drop m out₀) (sym front) in
      let whole : put_mid n k out new ≡ over (take n out ++ more) out₀ =
      ap (λ (m : ℕ). put_mid m k out new) (sym front)
      ∙ over_on (take n out) more out₀ out new k before (omega (arith, e, front)) (v'.writes ∙ ap (λ (m : ℕ). over more (mid_of m k out)) (sym front)) in
      let size' : length (take n out ++ more) ≡ n + v.written = length-append (take n out) more ∙ omega (arith, front, v'.written) in
      let all = take n out ++ more in
      let taken : take (n + v.written) (put_mid n k out new) ≡ all =
      ap (take (n + v.written)) whole ∙ ap (λ (m : ℕ). take m (over all out₀)) (sym size') ∙ take-append_seam all (drop (length all) out₀) in
      let kept' : drop (n + v.written) (put_mid n k out new) ≡ drop (n + v.written) out₀ =
      ap (drop (n + v.written)) whole ∙ ap (λ (m : ℕ). drop m (over all out₀)) (sym size') ∙ drop-append_seam all (drop (length all) out₀) ∙ ap (λ (m : ℕ). drop m out₀) size' in
      let m' = ends_at f c v.stance (i + v.bits) in
      let same : ends_at f c (after F C s v.bits) (i + v.bits) ≡ m' = ap (λ (x : Stance). ends_at f c x (i + v.bits)) (sym v'.stance) in
      let left : r - length more ≡ length out₀ - (n + v.written) = omega (arith, v'.written) in
      let page = sheet_from f c (length out₀ - (n + v.written)) m' in
      let sum : t + (v.starts + page.stretches) ≡ t + v.starts + page.stretches = omega arith in
      let joined : take n out ++ (more ++ page.bays) ≡ take (n + v.written) (put_mid n k out new) ++ page.bays =
      sym (append_assoc (take n out) more page.bays) ∙ ap (λ (xs : List ℕ). xs ++ page.bays) (sym taken) in
      record {
        size = ap length whole ∙ length-append all (drop (length all) out₀) ∙ omega (arith, length-drop (length all) out₀, size', v'.fits, long, g.within);
        within = omega (arith, v'.fits, long, g.within);
        wrote = g.wrote ∙ ap (onto (take n out) t) (w.wrote ∙ (λ j. onto more (sym starts j) (sheet_from f c (left j) (same j))))
            ∙ (λ j. record { bays = joined j; place = page.place; stretches = sum j });
        kept = kept';
        few = omega (arith, g.few, w.few, v'.written, starts);
        far = omega (arith, g.far, w.far, starts, same);
        low = omega (arith, g.low);
        most = omega (arith, v'.most, inside);
        sound = subst Sound (sym v'.stance) w.sound';
      }
