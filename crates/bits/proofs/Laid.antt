-- A number laid over 64 bits of a memory, and bits of one memory as those of another.
use Rattle.std.proofs.Common.{◌≡◌, ℕ, zero, suc, ◌+◌, ◌-◌, ◌*◌, ◌/◌, ◌%◌, ◌^◌, ◌<◌, ◌≤◌, Bool, false, ◌&&◌, ◌||◌, ltb, leb, eqb, List, [], ◌∷◌, length, get_or, bit_or, sym, refl, ap, ◌∙◌, ⊎_elim, arith, mod-lt, pow_pos, div-one, shr-shr}
use Rattle.std.proofs.lemmas.Bool.{cases_lt, le-leb, lt-leb, lt-ltb, le-ltb, and_from, and_left, and_right}
use Rattle.bits.specs.Bits.{bit_at}
use Rattle.bits.specs.Rows.{moved}
use Rattle.bits.specs.Words.{digit, Holds, Adds, in_word}
use Rattle.bits.proofs.Digits.{high_zero, front_digit}
use Rattle.bits.proofs.Held.{miss}
use Rattle.bits.proofs.Bytes.{bit_as_digit, same_byte}
use Rattle.bits.proofs.Adding.{or_digit}
use Rattle.bits.proofs.Moved.{up_low, up_high}

-- the bytes from k on are those of w, as far as there are any
pub laid_adds : (before after : List ℕ) (k x w : ℕ) → Holds (bit_at before) (8 * k) 64 w → x < 2 ^ 64
    → ((j : ℕ) → j < k → get_or after j 0 ≡ get_or before j 0) → ((j : ℕ) → k + 8 ≤ j → get_or after j 0 ≡ get_or before j 0)
    → ((j : ℕ) → j < 8 → k + j < length before → get_or after (k + j) 0 ≡ bit_or w x / 2 ^ (8 * j) % 256) → Adds (in_word k x) before after
laid_adds before after k x w held small front behind word i one last =
    let j = (i - 1) / 8 in
    let s = (i - 1) % 8 in
    let t = i - suc (8 * k) in
    ⊎_elim
    (λ less. same_byte after before i one (front j less) ∙ ap (λ b. (b && digit x t) || bit_at before i) (sym (le-ltb (8 * k) i (omega arith))))
    (λ more. ⊎_elim
    (λ within.
    let u = j - k in
    let low : s < 8 = mod-lt (i - 1) (omega arith) in
    let at : k + u ≡ j = omega arith in
    let here : 8 * u + s ≡ t = omega arith in
    let same : suc (8 * k + t) ≡ i = omega arith in
    bit_as_digit after i one ∙ ap (λ b. digit (get_or after b 0) s) (sym at) ∙ ap (λ b. digit b s) (word u (omega arith) (omega arith))
    ∙ ap (λ d. eqb d 1) (front_digit (bit_or w x / 2 ^ (8 * u)) 8 s low ∙ ap (λ (y : ℕ). y % 2) (shr-shr (bit_or w x) (8 * u) s))
    ∙ ap (digit (bit_or w x)) here ∙ or_digit w x t
    ∙ ap (λ b. digit x t || b) (sym (held.place t (omega arith)) ∙ ap (bit_at before) same)
    ∙ ap (λ b. (b && digit x t) || bit_at before i) (sym (lt-ltb (8 * k) i (omega arith))))
    (λ past.
    same_byte after before i one (behind j past)
    ∙ ap (λ b. b || bit_at before i) (sym (and_right (ltb (8 * k) i) _ (miss _ (high_zero x 64 t small (omega arith))))))
    (cases_lt j (k + 8)))
    (cases_lt j k)

-- n bits that x holds, moved up to those after the first p
pub moved_word : (f : ℕ → Bool) (p n q x i : ℕ) → p % 8 + n ≤ 64 → Holds f q n x → in_word (p / 8) (x * 2 ^ (p % 8) % 2 ^ 64) i ≡ moved p n f q i
moved_word f p n q x i few held =
    let k = p / 8 in
    let s = p % 8 in
    let t = i - suc (8 * k) in
    let y = x * 2 ^ s % 2 ^ 64 in
    let none : digit y t ≡ false → (ltb p i && leb i (p + n)) ≡ false → in_word k y i ≡ moved p n f q i = λ a b. and_right _ _ a ∙ sym (and_left _ _ b) in
    ⊎_elim
    (λ less. ⊎_elim
    (λ front. ap (λ b. b && digit y t) (le-ltb (8 * k) i (omega arith)) ∙ sym (and_left _ _ (and_left _ _ (le-ltb p i (omega arith)))))
    (λ inside. none (miss _ (up_low x s 64 t (omega arith) (omega arith))) (and_left _ _ (le-ltb p i (omega arith))))
    (cases_lt i (suc (8 * k))))
    (λ more. ⊎_elim
    (λ past. none (none_above (omega arith)) (and_right _ _ (lt-leb i (p + n) past)))
    (λ within.
    let u = t - s in
    let here : suc (q + u) ≡ q + (i - p) = omega arith in
    ap (λ b. b && digit y t) (lt-ltb (8 * k) i (omega arith)) ∙ ap (λ d. eqb d 1) (up_high x s 64 t (omega arith) (omega arith))
    ∙ sym (held.place u (omega arith)) ∙ ap f here
    ∙ sym (ap (λ b. b && f (q + (i - p))) (and_from _ _ (lt-ltb p i (omega arith)) (le-leb i (p + n) within))))
    (cases_lt (p + n) i))
    (cases_lt i (suc p))
  where
    none_above : p % 8 + n ≤ i - suc (8 * (p / 8)) → digit (x * 2 ^ (p % 8) % 2 ^ 64) (i - suc (8 * (p / 8))) ≡ false
    none_above l =
        let s = p % 8 in
        let t = i - suc (8 * (p / 8)) in
        ⊎_elim
        (λ low. miss _ (up_high x s 64 t low (omega arith) ∙ high_zero x n (t - s) held.small (omega arith)))
        (λ high. miss _ (high_zero _ 64 t (mod-lt _ (pow_pos 64)) high))
        (cases_lt t 64)

pub moved_past : (p n : ℕ) (f : ℕ → Bool) (q i : ℕ) → p + n < i → moved p n f q i ≡ false
moved_past p n f q i l = and_left _ _ (and_right _ _ (lt-leb i (p + n) l))

-- a whole word of them
pub moved_whole : (f : ℕ → Bool) (k p q x i : ℕ) → p ≡ 8 * k → Holds f q 64 x → in_word k x i ≡ moved p 64 f q i
moved_whole f k p q x i at held =
    let t = i - suc (8 * k) in
    ⊎_elim
    (λ front. and_left _ _ (le-ltb (8 * k) i (omega arith)) ∙ sym (and_left _ _ (and_left _ _ (le-ltb p i (omega arith)))))
    (λ more. ⊎_elim
    (λ past. and_right _ _ (miss _ (high_zero x 64 t held.small (omega arith))) ∙ sym (and_left _ _ (and_right _ _ (lt-leb i (p + 64) past))))
    (λ within.
    let here : suc (q + t) ≡ q + (i - p) = omega arith in
    ap (λ b. b && digit x t) (lt-ltb (8 * k) i more) ∙ sym (held.place t (omega arith)) ∙ ap f here
    ∙ sym (ap (λ b. b && f (q + (i - p))) (and_from _ _ (lt-ltb p i (omega arith)) (le-leb i (p + 64) within))))
    (cases_lt (p + 64) i))
    (cases_lt i (suc (8 * k)))

-- b bits behind the first a
pub moved_on : (p a b n : ℕ) (f : ℕ → Bool) (q i : ℕ) (o : Bool) → n ≡ a + b → (moved (p + a) b f (q + a) i || (moved p a f q i || o)) ≡ (moved p n f q i || o)
moved_on p a b n f q i o all = ⊎_elim
    (λ first.
    ap (λ c. c || (moved p a f q i || o)) (and_left _ _ (and_left _ _ (le-ltb (p + a) i (omega arith))))
    ∙ ap (λ c. ((ltb p i && c) && f (q + (i - p))) || o) (le-leb i (p + a) (omega arith) ∙ sym (le-leb i (p + n) (omega arith))))
    (λ then.
    let at : q + a + (i - (p + a)) ≡ q + (i - p) = omega arith in
    let end : p + a + b ≡ p + n = omega arith in
    ap (λ c. moved (p + a) b f (q + a) i || (c || o)) (and_left _ _ (and_right _ _ (lt-leb i (p + a) then)))
    ∙ (λ k. ((ltb (p + a) i && leb i (end k)) && f (at k)) || o)
    ∙ ap (λ c. ((c && leb i (p + n)) && f (q + (i - p))) || o) (lt-ltb (p + a) i then ∙ sym (lt-ltb p i (omega arith))))
    (cases_lt i (suc (p + a)))

-- the bytes of a number
pub byte_of : (w : ℕ) (j : ℕ) → j < 8
    → get_or (w % 256 ∷ w / 256 % 256 ∷ w / 65536 % 256 ∷ w / 16777216 % 256 ∷ w / 4294967296 % 256 ∷ w / 1099511627776 % 256 ∷ w / 281474976710656 % 256 ∷ w / 72057594037927936 % 256 ∷ []) j 0
    ≡ w / 2 ^ (8 * j) % 256
byte_of w zero l = ap (λ (y : ℕ). y % 256) (sym (div-one w))
byte_of w (suc zero) l = refl
byte_of w (suc (suc zero)) l = refl
byte_of w (suc (suc (suc zero))) l = refl
byte_of w (suc (suc (suc (suc zero)))) l = refl
byte_of w (suc (suc (suc (suc (suc zero))))) l = refl
byte_of w (suc (suc (suc (suc (suc (suc zero)))))) l = refl
byte_of w (suc (suc (suc (suc (suc (suc (suc zero))))))) l = refl
byte_of w (suc (suc (suc (suc (suc (suc (suc (suc j)))))))) l = absurd (omega arith)
