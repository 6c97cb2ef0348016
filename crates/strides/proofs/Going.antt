-- The bits that are passed, 64 more at a time.
use Rattle.std.proofs.Common.{◌≡◌, ℕ, ◌+◌, ◌-◌, ◌<◌, ◌≤◌, min, Bool, List, [], ◌++◌, length, take, drop, refl, sym, ap, ◌∙◌, ⊎_elim, subst, arith, append_assoc, drop-drop, length-append, length-drop}
use borrow.Rule.Slice.PartMut.{mid_of, put_mid, put_same}
use lib.Bits.{bit_and}
use lib.Seq.{take-append_seam, drop-append_seam}
use Rattle.std.proofs.lemmas.Bool.{cases_lt}
use Rattle.std.proofs.lemmas.List.{append-nil, take_all, drop_all}
use Rattle.sets.specs.Lists.{over}
use Rattle.sets.specs.Search.{count_to}
use Rattle.sets.proofs.Tests.{count_none, count_le}
use Rattle.bits.specs.Words.{Holds}
use Rattle.strides.specs.declared.standing.Stance.{Stance}
use Rattle.strides.specs.declared.passed.Passed.{Passed}
use Rattle.strides.specs.Strides.{row_of, numbered, both, last_alone, begins, after}
use Rattle.strides.specs.Passage.{Passage}
use Rattle.strides.proofs.Numbering.{numbered_none, numbered_size, numbered_join}
use Rattle.strides.proofs.Passing.{none_both}
use Rattle.strides.proofs.Joining.{after_join, count_join, numbers_join}

-- a memory of which the front is written, and then a part behind it
pub over_on : (xs ys mem out new : List ℕ) (k : ℕ) → out ≡ over xs mem → k ≡ length out - length xs → new ≡ over ys (mid_of (length xs) k out)
    → put_mid (length xs) k out new ≡ over (xs ++ ys) mem
over_on xs ys mem out new k are e wrote =
    let a = length xs in
    let front : take a out ≡ xs = ap (take a) are ∙ take-append_seam xs (drop a mem) in
    let behind : drop a out ≡ drop a mem = ap (drop a) are ∙ drop-append_seam xs (drop a mem) in
    let all : take k (drop a out) ≡ drop a out = take_all k (drop a out) (omega (arith, length-drop a out)) in
    let none : drop k (drop a out) ≡ [] = drop_all k (drop a out) (omega (arith, length-drop a out)) in
    let rest : drop (length ys) (drop a mem) ≡ drop (length (xs ++ ys)) mem =
    drop-drop (length ys) a mem ∙ ap (λ (n : ℕ). drop n mem) (sym (length-append xs ys)) in
    let part : new ≡ ys ++ drop (length (xs ++ ys)) mem = wrote ∙ ap (λ (zs : List ℕ). ys ++ drop (length ys) zs) (all ∙ behind) ∙ ap (λ (zs : List ℕ). ys ++ zs) rest in
    (λ i. front i ++ (part i ++ none i)) ∙ ap (λ (zs : List ℕ). xs ++ zs) (append-nil (ys ++ drop (length (xs ++ ys)) mem))
    ∙ sym (append_assoc xs ys (drop (length (xs ++ ys)) mem))

module _ (f c : ℕ → Bool) (s : Stance) (first left : ℕ) (out₀ : List ℕ) where
  stance_start : s ≡ after f c s 0
  unfolding after last_alone
  stance_start = refl

  pub going_start : Passage f c s first left out₀ (record { bits = 0; written = 0; starts = 0; stance = s }) out₀
  going_start =
      let none = numbered_none (both f c) first in
      record {
        stance = stance_start;
        writes = ap (λ (xs : List ℕ). over xs out₀) (sym none);
        written = ap length (sym none);
        starts = sym (count_none (begins f c s)) ∙ ap (count_to (begins f c s)) (omega arith);
        size = refl;
        fits = omega arith;
        room = λ j l. absurd (omega arith);
        most = omega arith;
        words = refl;
      }

  -- the numbers written and the stretches begun are no more than the bits
  module _ (w : Passed) (out : List ℕ) (g : Passage f c s first left out₀ w out) where
    pub written_few : w.written ≤ w.bits
    written_few = omega (arith, g.written, numbered_size (both f c) first w.bits)

    pub starts_few : w.starts ≤ w.bits
    starts_few = omega (arith, g.starts, count_le (begins f c s) (min w.bits left))

    -- 64 more
    pub going_on : (v : Passed) (x y k : ℕ) (new : List ℕ) → w.bits < left → 64 + w.written ≤ length out → Holds f w.bits 64 x → Holds c w.bits 64 y
        → v.bits ≡ w.bits + 64 → v.stance ≡ after (row_of x) (row_of y) w.stance 64
        → k ≡ length out - w.written → new ≡ over (numbered (both (row_of x) (row_of y)) (first + w.bits) 64) (mid_of w.written k out)
        → v.written ≡ w.written + length (numbered (both (row_of x) (row_of y)) (first + w.bits) 64)
        → v.starts ≡ w.starts + count_to (begins (row_of x) (row_of y) w.stance) (min (left - w.bits) 64)
        → Passage f c s first left out₀ v (put_mid w.written k out new)
    going_on v x y k new more room hx hy bits stance e wrote written starts =
        let old = numbered (both f c) first w.bits in
        let added = numbered (both (row_of x) (row_of y)) (first + w.bits) 64 in
        let all : numbered (both f c) first v.bits ≡ old ++ added = ap (numbered (both f c) first) bits ∙ numbers_join f c s w.bits x y hx hy first in
        let small = numbered_size (both (row_of x) (row_of y)) (first + w.bits) 64 in
        let n = min (left - w.bits) 64 in
        let upto : min v.bits left ≡ w.bits + n = omega (arith, bits) in
        let before : min w.bits left ≡ w.bits = omega arith in
        let same : put_mid w.written k out new ≡ over (old ++ added) out₀ =
        ap (λ (a : ℕ). put_mid a k out new) g.written
        ∙ over_on old added out₀ out new k g.writes (omega (arith, e, g.written)) (wrote ∙ ap (λ (a : ℕ). over added (mid_of a k out)) g.written) in
        let long : length (over (old ++ added) out₀) ≡ length out₀ =
        length-append (old ++ added) (drop (length (old ++ added)) out₀)
        ∙ omega (arith, length-drop (length (old ++ added)) out₀, length-append old added, small, room, g.size, g.written) in
        record {
          stance = stance ∙ ap (λ (t : Stance). after (row_of x) (row_of y) t 64) g.stance ∙ sym (after_join f c s w.bits x y hx hy 64 (omega arith)) ∙ ap (after f c s) (sym bits);
          writes = same ∙ ap (λ (xs : List ℕ). over xs out₀) (sym all);
          written = omega (arith, written, g.written, ap length all, length-append old added);
          starts =
              let joined = count_join f c s w.bits x y hx hy n (omega arith) in
              let here = ap (λ (t : Stance). count_to (begins (row_of x) (row_of y) t) n) g.stance in
              omega (arith, starts, g.starts, joined, here, ap (count_to (begins f c s)) upto, ap (count_to (begins f c s)) before);
          size = ap length same ∙ long;
          fits = omega (arith, written, small, room, g.size);
          room = λ j l. ⊎_elim
              (λ less. g.room j less)
              (λ past.
              let d = j - w.bits in
              let at : j ≡ w.bits + d = omega arith in
              omega (
                arith,
                ap (λ (i : ℕ). length (numbered (both f c) first i)) at,
                ap length (numbered_join (both f c) first w.bits d),
                length-append old (numbered (λ i. both f c (w.bits + i)) (first + w.bits) d),
                numbered_size (λ i. both f c (w.bits + i)) (first + w.bits) d,
                g.written,
                g.size,
                room,
                bits,
                l,
              ))
              (cases_lt j w.bits);
          most = omega (arith, bits, more);
          words = omega (arith, bits, g.words);
        }

    -- 64 more, of which none is in both rows
    pub going_apart : (v : Passed) (x y : ℕ) → w.bits + 64 < left → 64 + w.written ≤ length out → Holds f w.bits 64 x → Holds c w.bits 64 y → bit_and x y ≡ 0
        → v.bits ≡ w.bits + 64 → v.stance ≡ after (row_of x) (row_of y) w.stance 64 → v.written ≡ w.written
        → v.starts ≡ w.starts + count_to (begins (row_of x) (row_of y) w.stance) 64
        → Passage f c s first left out₀ v out
    going_apart v x y more room hx hy apart bits stance written starts =
        let k = length out - w.written in
        let none : numbered (both (row_of x) (row_of y)) (first + w.bits) 64 ≡ [] = none_both x y (first + w.bits) apart in
        let all : 64 ≡ min (left - w.bits) 64 = omega (arith, more) in
        subst (Passage f c s first left out₀ v) (put_same w.written k out)
        (going_on v x y k (mid_of w.written k out) (omega (arith, more)) room hx hy bits stance refl
        (ap (λ (xs : List ℕ). over xs (mid_of w.written k out)) (sym none)) (omega (arith, written, ap length none))
        (starts ∙ ap (λ (n : ℕ). w.starts + count_to (begins (row_of x) (row_of y) w.stance) n) all))
