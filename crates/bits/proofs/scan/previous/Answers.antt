-- What is left to show of `previous`.
use Rattle.std.proofs.Common.{ℕ, ◌+◌, ◌-◌, ◌*◌, ◌/◌, ◌%◌, ◌^◌, Bool, None, bit_and, ◌∙◌, arith, rules}
use Rattle.std.specs.Int.Count.{count_leading_zeros}
use Rattle.sets.proofs.Tests.{last_by}
use Rattle.bits.specs.Words.{Holds}
use Rattle.bits.proofs.Held.{front_held, none_past, last_in_lem, last_earlier}
use Rattle.bits.proofs.scan.previous.Goals as goal

pub returns-in_err-p : goal.returns-in_err-p
returns-in_err-p c = c.from_residual.ensures ∙ last_by _ _ None (λ j l h. absurd (c.in_err-p.ensures (omega arith)))

-- the bits of a word up to place p
held : (f : ℕ → Bool) (p x : ℕ) → Holds f (8 * (8 * (p / 64))) 64 x → Holds f (8 * (8 * (p / 64))) (p % 64 + 1) (bit_and x (18446744073709551615 / 2 ^ (63 - p % 64)))
held f p x h = front_held f _ 64 x (63 - p % 64) (p % 64 + 1) h (omega arith)

-- where the last bit of a word is
abbrev place : ℕ → ℕ → ℕ
place w x = 64 * w + (64 - count_leading_zeros 64 x)

-- the word up to `from`
abbrev front : ℕ → ℕ → ℕ
front p x = bit_and x (18446744073709551615 / 2 ^ (63 - p % 64))

pub overflow_add-result : goal.overflow_add-result
overflow_add-result c =
    let p = c.in_ok-p.p in
    let l = last_in_lem _ _ 64 _ _ (place (p / 64) (front p c.word.result)) (held _ p _ c.word.ensures) (omega arith) (search rules) (omega arith) in
    omega (arith, l.1)

pub returns-then-v-ne0 : goal.returns-then-v-ne0
returns-then-v-ne0 c =
    let q = place (c.in_ok-p.p / 64) (front c.in_ok-p.p c.word.result) in
    let l = last_in_lem _ _ 64 _ _ q (held _ c.in_ok-p.p _ c.word.ensures) (omega arith) (search rules) (omega arith) in
    last_by _ _ _ (l.0, omega (arith, l.1), l.2, λ j a b. l.3 j a (omega arith))

pub returns : goal.returns
returns c =
    let p = c.in_ok-p.p in
    let none = none_past _ _ _ _ 0 (held _ p _ c.word.ensures) (omega arith) in
    c.previous_in_words.ensures ∙ last_earlier _ c.args.from (64 * (p / 64)) (omega arith) (λ j a b. none j (omega arith) (omega arith))
